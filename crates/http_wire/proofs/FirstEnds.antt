-- A head ends at its first empty line.
use Rattle.std.proofs.Common.{◌≡◌, ◌⊎◌, inl, inr, ℕ, ◌<◌, ◌+◌, ◌==◌, ◌&&◌, ◌||◌, ◌≤◌, nat_le, unwrap_or, Bool, true, false, cond, List, [], ◌∷◌, ◌++◌, length, reverse, Option, Some, None, refl, ap, sym, ◌∙◌, subst, append_assoc, append-nil, arith}
use Rattle.std.specs.List.{list_any}
use Rattle.std.proofs.lemmas.Bool.{and_parts, eqb-true}
use Rattle.std.proofs.lemmas.Bool.Decides.{nat_tests}
use Rattle.std.proofs.lemmas.List.{reverse-append, reverse-reverse}
use Rattle.std.proofs.lemmas.List.Folds.{list_any-append}
use Rattle.http_wire.specs.Extent.{begins_empty, ends_empty, ends_head, ends_line, is_feed, is_full, is_return, is_text, line_feeds, searched, shortest, shortest_from}
use Rattle.http_wire.specs.FirstEnds.{EndsAtEmptyLine, IsShortest}

-- a front that goes on from this one passes, and no front before it that goes on from this one does
record IsFrom (test : List ℕ → Bool) (front rest part : List ℕ) : Type 0 where
  more : List ℕ
  behind : List ℕ
  part_is : part ≡ front ++ more
  rest_is : rest ≡ more ++ behind
  passes : test part ≡ true
  none_before : (a b : List ℕ) → more ≡ a ++ b → 0 < length b → test (front ++ a) ≡ false

-- nothing is shorter than nothing
none_shorter : (a b : List ℕ) → [] ≡ a ++ b → 0 < length b → ⊥
none_shorter [] [] is some = omega (arith, some)
none_shorter [] (y ∷ b) is some = cc
none_shorter (x ∷ a) b is some = cc

here : (test : List ℕ → Bool) (front rest part : List ℕ) → test front ≡ true → Some front ≡ Some part → IsFrom test front rest part
here test front rest part is e =
    let same : front ≡ part = cc in
    record {
      more = [];
      behind = rest;
      part_is = sym same ∙ sym (append-nil front);
      rest_is = refl;
      passes = subst (λ p. test p ≡ true) same is;
      none_before = λ a b parts some. absurd (none_shorter a b parts some);
    }

farther : (test : List ℕ → Bool) (front rest part : List ℕ) (byte : ℕ) → test front ≡ false → IsFrom test (front ++ byte ∷ []) rest part → IsFrom test front (byte ∷ rest) part
farther test front rest part byte is h = record {
  more = byte ∷ h.more;
  behind = h.behind;
  part_is = h.part_is ∙ append_assoc front (byte ∷ []) h.more;
  rest_is = ap (λ l. byte ∷ l) h.rest_is;
  passes = h.passes;
  none_before = by_front;
}
  where
    by_front : (a b : List ℕ) → byte ∷ h.more ≡ a ++ b → 0 < length b → test (front ++ a) ≡ false
    by_front [] b parts some = ap test (append-nil front) ∙ is
    by_front (x ∷ a) b parts some =
        let first : x ≡ byte = cc in
        let later : h.more ≡ a ++ b = cc in
        ap (λ y. test (front ++ y ∷ a)) first ∙ ap test (sym (append_assoc front (byte ∷ []) a)) ∙ h.none_before a b later some

from_found : (test : List ℕ → Bool) (front rest part : List ℕ) → shortest_from test front rest ≡ Some part → IsFrom test front rest part
from_found test front [] part e = by_test (test front) refl e
  where
    by_test : (c : Bool) → test front ≡ c → cond c (Some front) None ≡ Some part → IsFrom test front [] part
    by_test true is here_ = here test front [] part is here_
    by_test false is here_ = absurd (cc)
from_found test front (byte ∷ rest) part e =
    by_test (test front) refl e (λ later. from_found test (front ++ byte ∷ []) rest part later)
  where
    by_test : (c : Bool) → test front ≡ c → cond c (Some front) (shortest_from test (front ++ byte ∷ []) rest) ≡ Some part
        → (shortest_from test (front ++ byte ∷ []) rest ≡ Some part → IsFrom test (front ++ byte ∷ []) rest part)
        → IsFrom test front (byte ∷ rest) part
    by_test true is here_ next = here test front (byte ∷ rest) part is here_
    by_test false is here_ next = farther test front rest part byte is (next here_)

-- what is found is the shortest front that passes
pub found_shortest : (test : List ℕ → Bool) (bytes part : List ℕ) → shortest test bytes ≡ Some part → IsShortest test bytes part
found_shortest test bytes part e =
    let h = from_found test [] bytes part e in
    record {
      behind = h.behind;
      bytes_are = h.rest_is ∙ ap (λ l. l ++ h.behind) (sym h.part_is);
      passes = h.passes;
      none_before = λ front rest parts some. h.none_before front rest (sym h.part_is ∙ parts) some;
    }

-- and the shortest front that passes is found
found_from : (test : List ℕ → Bool) (front more behind : List ℕ) → test (front ++ more) ≡ true
    → ((a b : List ℕ) → more ≡ a ++ b → 0 < length b → test (front ++ a) ≡ false)
    → shortest_from test front (more ++ behind) ≡ Some (front ++ more)
found_from test front [] [] passes none =
    let is : test front ≡ true = ap test (sym (append-nil front)) ∙ passes in
    ap (λ c. cond c (Some front) None) is ∙ ap Some (sym (append-nil front))
found_from test front [] (byte ∷ behind) passes none =
    let is : test front ≡ true = ap test (sym (append-nil front)) ∙ passes in
    ap (λ c. cond c (Some front) (shortest_from test (front ++ byte ∷ []) behind)) is ∙ ap Some (sym (append-nil front))
found_from test front (byte ∷ more) behind passes none =
    let is : test front ≡ false = ap test (sym (append-nil front)) ∙ none [] (byte ∷ more) refl (omega arith) in
    let joined : (front ++ byte ∷ []) ++ more ≡ front ++ byte ∷ more = append_assoc front (byte ∷ []) more in
    let later = found_from test (front ++ byte ∷ []) more behind (ap test joined ∙ passes) (λ a b parts some.
    ap test (append_assoc front (byte ∷ []) a) ∙ none (byte ∷ a) b (ap (λ l. byte ∷ l) parts) some) in
    ap (λ c. cond c (Some front) (shortest_from test (front ++ byte ∷ []) (more ++ behind))) is ∙ later ∙ ap Some joined

pub shortest_found : (test : List ℕ → Bool) (bytes part : List ℕ) → IsShortest test bytes part → shortest test bytes ≡ Some part
shortest_found test bytes part h =
    ap (shortest test) h.bytes_are ∙ found_from test [] part h.behind h.passes h.none_before

feed_is : (byte : ℕ) → is_feed byte ≡ true → byte ≡ 10
feed_is byte h = eqb-true byte 10 h

return_is : (byte : ℕ) → is_return byte ≡ true → byte ≡ 13
return_is byte h = eqb-true byte 13 h

-- text backwards is text
list_any-reverse : (bytes : List ℕ) → list_any is_text (reverse bytes) ≡ list_any is_text bytes
list_any-reverse [] = refl
list_any-reverse (byte ∷ bytes) =
    ap (list_any is_text) (reverse-append (byte ∷ []) bytes) ∙ list_any-append is_text (reverse bytes) (byte ∷ [])
    ∙ ap (λ c. c || (is_text byte || false)) (list_any-reverse bytes) ∙ turned (list_any is_text bytes) (is_text byte)
  where
    turned : (a b : Bool) → (a || (b || false)) ≡ (b || a)
    turned true true = refl
    turned true false = refl
    turned false true = refl
    turned false false = refl

-- bytes that are these backwards
unturned : (bytes back : List ℕ) → reverse bytes ≡ back → bytes ≡ reverse back
unturned bytes back is = sym (reverse-reverse bytes) ∙ ap reverse is

by_feeds : (bytes before : List ℕ) → reverse bytes ≡ 10 ∷ 10 ∷ before → list_any is_text before ≡ true → EndsAtEmptyLine bytes
by_feeds bytes before is text =
    (reverse before, list_any-reverse before ∙ text, inl (unturned bytes (10 ∷ 10 ∷ before) is ∙ reverse-append (10 ∷ 10 ∷ []) before))

by_return : (bytes before : List ℕ) → reverse bytes ≡ 10 ∷ 13 ∷ 10 ∷ before → list_any is_text before ≡ true → EndsAtEmptyLine bytes
by_return bytes before is text =
    (reverse before, list_any-reverse before ∙ text, inr (unturned bytes (10 ∷ 13 ∷ 10 ∷ before) is ∙ reverse-append (10 ∷ 13 ∷ 10 ∷ []) before))

by_line : (bytes before : List ℕ) → reverse bytes ≡ 10 ∷ before → ends_line before ≡ true → EndsAtEmptyLine bytes
by_line bytes [] is e = absurd (cc)
by_line bytes (byte ∷ before) is e =
    let both = and_parts (is_feed byte) (list_any is_text before) e in
    by_feeds bytes before (is ∙ ap (λ b. 10 ∷ b ∷ before) (feed_is byte both.0)) both.1

by_empty : (bytes before : List ℕ) → reverse bytes ≡ 10 ∷ before → begins_empty before ≡ true → EndsAtEmptyLine bytes
by_empty bytes [] is e = absurd (cc)
by_empty bytes (byte ∷ []) is e =
    absurd (let no : false ≡ true = sym (right_false (is_return byte)) ∙ e in cc)
  where
    right_false : (a : Bool) → (a && false) ≡ false
    right_false true = refl
    right_false false = refl
by_empty bytes (byte ∷ feed ∷ before) is e =
    let both = and_parts (is_return byte) (is_feed feed && list_any is_text before) e in
    let line = and_parts (is_feed feed) (list_any is_text before) both.1 in
    by_return bytes before
    (is ∙ ap (λ b. 10 ∷ b ∷ feed ∷ before) (return_is byte both.0) ∙ ap (λ b. 10 ∷ 13 ∷ b ∷ before) (feed_is feed line.0)) line.1

-- what ends as a head must end ends at an empty line
pub ends_there : (bytes : List ℕ) → ends_head bytes ≡ true → EndsAtEmptyLine bytes
ends_there bytes e = by_back (reverse bytes) refl e
  where
    by_or : (before : List ℕ) → reverse bytes ≡ 10 ∷ before → (c : Bool) → ends_line before ≡ c → (c || begins_empty before) ≡ true → EndsAtEmptyLine bytes
    by_or before is true line h = by_line bytes before is line
    by_or before is false line h = by_empty bytes before is h

    by_back : (back : List ℕ) → reverse bytes ≡ back → ends_empty back ≡ true → EndsAtEmptyLine bytes
    by_back [] is h = absurd (cc)
    by_back (byte ∷ before) is h =
        let both = and_parts (is_feed byte) (ends_line before || begins_empty before) h in
        by_or before (is ∙ ap (λ b. b ∷ before) (feed_is byte both.0)) (ends_line before) refl both.1

-- and the other way round
pub there_ends : (bytes : List ℕ) → EndsAtEmptyLine bytes → ends_head bytes ≡ true
there_ends bytes (front, text, inl is) =
    let back : reverse bytes ≡ 10 ∷ 10 ∷ reverse front = ap reverse is ∙ reverse-append front (10 ∷ 10 ∷ []) in
    let same : list_any is_text (reverse front) ≡ true = list_any-reverse front ∙ text in
    ap ends_empty back ∙ ap (λ c. c || false) same
there_ends bytes (front, text, inr is) =
    let back : reverse bytes ≡ 10 ∷ 13 ∷ 10 ∷ reverse front = ap reverse is ∙ reverse-append front (10 ∷ 13 ∷ 10 ∷ []) in
    ap ends_empty back ∙ list_any-reverse front ∙ text

-- where no front is full all bytes are searched
pub all_searched : (bytes : List ℕ) → ((front rest : List ℕ) → bytes ≡ front ++ rest → is_full front ≡ false) → searched bytes ≡ bytes
all_searched bytes none = by_found (shortest is_full bytes) refl
  where
    by_found : (found : Option (List ℕ)) → shortest is_full bytes ≡ found → unwrap_or found bytes ≡ bytes
    by_found None is = refl
    by_found (Some part) is =
        let h = found_shortest is_full bytes part is in
        absurd (let no : true ≡ false = sym h.passes ∙ none part h.behind h.bytes_are in cc)

at_least : (least n : ℕ) → nat_le least n ≡ true → least ≤ n
at_least least n h = grind (arith, nat_tests)

tested : (least n : ℕ) → least ≤ n → nat_le least n ≡ true
tested least n h = grind (arith, nat_tests)

-- bytes are full by their number or by that of their line feeds
pub full_is : (bytes : List ℕ) → is_full bytes ≡ true → (16384 ≤ length bytes) ⊎ (66 ≤ line_feeds bytes)
full_is bytes h = by_test (nat_le 16384 (length bytes)) refl h
  where
    by_test : (c : Bool) → nat_le 16384 (length bytes) ≡ c → (c || nat_le 66 (line_feeds bytes)) ≡ true → (16384 ≤ length bytes) ⊎ (66 ≤ line_feeds bytes)
    by_test true is e = inl (at_least 16384 (length bytes) is)
    by_test false is e = inr (at_least 66 (line_feeds bytes) e)

or_true : (c : Bool) → (c || true) ≡ true
or_true true = refl
or_true false = refl

pub is_full_by : (bytes : List ℕ) → (16384 ≤ length bytes) ⊎ (66 ≤ line_feeds bytes) → is_full bytes ≡ true
is_full_by bytes (inl many) = ap (λ c. c || nat_le 66 (line_feeds bytes)) (tested 16384 (length bytes) many)
is_full_by bytes (inr feeds) =
    ap (λ c. nat_le 16384 (length bytes) || c) (tested 66 (line_feeds bytes) feeds) ∙ or_true (nat_le 16384 (length bytes))
