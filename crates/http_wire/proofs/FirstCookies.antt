-- The cookie that is found is that of the first pair of its name.
use Rattle.std.proofs.Common.{◌≡◌, ℕ, ◌==◌, Bool, true, false, cond, nat_eq, List, [], ◌∷◌, ◌++◌, drop, Option, Some, None, All, codes, refl, ap, sym, ◌∙◌, arith}
use Rattle.std.specs.Bool.{Decides}
use Rattle.std.specs.List.{slice_split, starts_with}
use Rattle.std.specs.Option.{option_or}
use Rattle.std.proofs.lemmas.Bool.Decides.{nat_tests}
use Rattle.std.proofs.lemmas.List.Elements.{All-nil, All-cons, All-head, All-tail}
use Rattle.std.proofs.lemmas.Slice.Eq.{starts_is}
use Rattle.http_wire.specs.Fields.{cookie_in, crash_value, first_value, is_space_or, trimmed}
use Rattle.http_wire.specs.FirstCookies.{IsCookiePair, IsFirstCookie, NoneIsCookie, pairs_of}

-- a pair that is not the cookie's
abbrev Other : List ℕ → Type 0
Other pair = (text : List ℕ) → ¬ (IsCookiePair text pair)

decides : (a b : ℕ) → Decides (nat_eq a b) (a ≡ b)
decides a b = (λ h. grind (arith, nat_tests), λ h. grind (arith, nat_tests))

-- what a value is of begins with the name
begins : (text value : List ℕ) → crash_value text ≡ Some value → text ≡ codes "crash=" ++ value
begins text value e = by_test (starts_with nat_eq text (codes "crash=")) refl e
  where
    by_test : (c : Bool) → starts_with nat_eq text (codes "crash=") ≡ c → cond c (Some (drop 6 text)) None ≡ Some value → text ≡ codes "crash=" ++ value
    by_test true is here =
        let rest : drop 6 text ≡ value = cc in
        (starts_is decides text (codes "crash=") true (sym is)).0 refl ∙ ap (λ l. codes "crash=" ++ l) rest
    by_test false is here = absurd (cc)

-- and what begins with the name has a value
has_value : (text value : List ℕ) → text ≡ codes "crash=" ++ value → crash_value text ≡ Some value
has_value text value is = ap crash_value is

-- a pair has no value exactly where it is not the cookie's
not_cookie : (pair : List ℕ) → crash_value (trimmed (is_space_or 32) pair) ≡ None → Other pair
not_cookie pair none text is =
    let some : Some text ≡ None = sym (has_value (trimmed (is_space_or 32) pair) text is) ∙ none in cc

without_value : (pair : List ℕ) → Other pair → crash_value (trimmed (is_space_or 32) pair) ≡ None
without_value pair other = by_value (crash_value (trimmed (is_space_or 32) pair)) refl
  where
    by_value : (found : Option (List ℕ)) → crash_value (trimmed (is_space_or 32) pair) ≡ found → found ≡ None
    by_value None is = refl
    by_value (Some value) is = absurd (other value (begins (trimmed (is_space_or 32) pair) value is))

-- what is found in pairs is found in the first or in the others
or_or : (a b c : Option (List ℕ)) → option_or a (option_or b c) ≡ option_or (option_or a b) c
or_or None b c = refl
or_or (Some x) b c = refl

joined : (front rest : List (List ℕ)) → first_value (front ++ rest) ≡ option_or (first_value front) (first_value rest)
joined [] rest = refl
joined (pair ∷ front) rest =
    let value = crash_value (trimmed (is_space_or 32) pair) in
    ap (option_or value) (joined front rest) ∙ or_or value (first_value front) (first_value rest)

-- a cookie is looked for in all pairs of the values, in order
pub in_pairs : (values : List (List ℕ)) → cookie_in values ≡ first_value (pairs_of values)
in_pairs [] = refl
in_pairs (value ∷ values) =
    let parts = slice_split (λ b. b == 59) value in
    ap (option_or (first_value parts)) (in_pairs values) ∙ sym (joined parts (pairs_of values))

later : (text pair : List ℕ) (pairs : List (List ℕ)) → Other pair → IsFirstCookie text pairs → IsFirstCookie text (pair ∷ pairs)
later text pair pairs other h = record {
  before = pair ∷ h.before;
  pair = h.pair;
  behind = h.behind;
  pairs_are = ap (λ rest. pair ∷ rest) h.pairs_are;
  has_text = h.has_text;
  others = All-cons Other pair h.before other h.others;
}

-- what is found is of the first pair
pub found_first : (text : List ℕ) (pairs : List (List ℕ)) → first_value pairs ≡ Some text → IsFirstCookie text pairs
found_first text [] e = absurd (cc)
found_first text (pair ∷ pairs) e =
    by_value (crash_value (trimmed (is_space_or 32) pair)) refl e (λ rest. found_first text pairs rest)
  where
    by_value : (found : Option (List ℕ)) → crash_value (trimmed (is_space_or 32) pair) ≡ found → option_or found (first_value pairs) ≡ Some text
        → (first_value pairs ≡ Some text → IsFirstCookie text pairs) → IsFirstCookie text (pair ∷ pairs)
    by_value None is here next = later text pair pairs (not_cookie pair is) (next here)
    by_value (Some value) is here next =
        let same : value ≡ text = cc in
        record {
          before = [];
          pair = pair;
          behind = pairs;
          pairs_are = refl;
          has_text = begins (trimmed (is_space_or 32) pair) value is ∙ ap (λ l. codes "crash=" ++ l) same;
          others = All-nil Other;
        }

-- other pairs are passed over
passed : (before rest : List (List ℕ)) → NoneIsCookie before → first_value (before ++ rest) ≡ first_value rest
passed [] rest others = refl
passed (pair ∷ before) rest others =
    ap (λ found. option_or found (first_value (before ++ rest))) (without_value pair (All-head Other pair before others))
    ∙ passed before rest (All-tail Other pair before others)

-- and the first pair is found
pub first_found : (text : List ℕ) (pairs : List (List ℕ)) → IsFirstCookie text pairs → first_value pairs ≡ Some text
first_found text pairs h =
    ap first_value h.pairs_are ∙ passed h.before (h.pair ∷ h.behind) h.others
    ∙ ap (λ found. option_or found (first_value h.behind)) (has_value (trimmed (is_space_or 32) h.pair) text h.has_text)

-- where none is found no pair is the cookie's
pub none_found : (pairs : List (List ℕ)) → first_value pairs ≡ None → NoneIsCookie pairs
none_found [] e = All-nil Other
none_found (pair ∷ pairs) e =
    by_value (crash_value (trimmed (is_space_or 32) pair)) refl e (λ rest. none_found pairs rest)
  where
    by_value : (found : Option (List ℕ)) → crash_value (trimmed (is_space_or 32) pair) ≡ found → option_or found (first_value pairs) ≡ None
        → (first_value pairs ≡ None → NoneIsCookie pairs) → NoneIsCookie (pair ∷ pairs)
    by_value None is here next = All-cons Other pair pairs (not_cookie pair is) (next here)
    by_value (Some value) is here next = absurd (cc)

-- and where no pair is the cookie's none is found
pub none_is : (pairs : List (List ℕ)) → NoneIsCookie pairs → first_value pairs ≡ None
none_is [] others = refl
none_is (pair ∷ pairs) others =
    ap (λ found. option_or found (first_value pairs)) (without_value pair (All-head Other pair pairs others))
    ∙ none_is pairs (All-tail Other pair pairs others)
