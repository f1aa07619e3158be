-- The requests of a journal in two lists, with one more.
use Rattle.std.proofs.Common.{◌≡◌, ℕ, ◌+◌, ◌<◌, ◌≤◌, Bool, true, false, cond, max, List, [], ◌∷◌, ◌++◌, length, Option, Some, None, position, refl, sym, ap, ◌∙◌, subst, arith, length-append, vec_capacity}
use Rattle.std.specs.Global.{Vec}
use Rattle.std.proofs.lemmas.Bool.Decides.{nat_tests}
use Rattle.std.proofs.lemmas.List.Elements.{All-nil, All-head, All-tail, All-push}
use Rattle.crash_base.specs.declared.numbers.RequestNo.{RequestNo}
use Rattle.journal_model.specs.declared.entry.Entry.{Entry}
use Rattle.journal_model.specs.declared.entry.Entry.TheVariants.{Commit, Down, Up}
use Rattle.journal_model.specs.Requests.{same_request, is_commit_of}
use Rattle.commit_journal.specs.declared.made.Made.{Made}
use Rattle.commit_journal.specs.declared.requests.Requests.{Requests}
use Rattle.commit_journal.specs.declared.requests.TheConstants.{MOST_LATE}
use Rattle.commit_journal.specs.Made.{is_earlier, AreSorted, AllBefore, place_in, with_made, or_else, made_if}
use Rattle.commit_journal.specs.Requests.{place_among, made_count, AreInOrder, HaveRoom, AreSame, KeepPlaces, HasMade, HasMadeOf, AreMade}
use Rattle.commit_journal.proofs.Halving.{IsAfter}
use Rattle.commit_journal.proofs.Making.{or_none, cons_or, placed, sorted_with, few_with, place_push}
use Rattle.commit_journal.proofs.Merging.{or_assoc}

-- one more at the end
sorted_push : (ms : List Made) (new : Made) → AreSorted ms → AllBefore new.request ms → AreSorted (ms ++ new ∷ [])
sorted_push [] new sorted all = (All-nil (IsAfter new), tt)
sorted_push (m ∷ ms) new sorted all =
    (All-push (IsAfter m) ms new sorted.0 (All-head (λ (n : Made). is_earlier new.request n ≡ true) m ms all), sorted_push ms new sorted.1 (All-tail (λ (n : Made). is_earlier new.request n ≡ true) m ms all))

placed_push : (q : RequestNo) (ms : List Made) (new : Made) → place_in q (ms ++ new ∷ []) ≡ or_else (place_in q ms) (made_if (same_request new.request q) new.place)
placed_push q [] new = refl
placed_push q (m ∷ ms) new = cons_or (same_request m.request q) m.place (place_in q (ms ++ new ∷ [])) (place_in q ms) (made_if (same_request new.request q) new.place) (placed_push q ms new)

same_any : (a r q : RequestNo) → same_request r q ≡ true → same_request a q ≡ same_request a r
same_any a r q same = grind (arith, nat_tests)

place_same : (r q : RequestNo) (ms : List Made) → same_request r q ≡ true → place_in q ms ≡ place_in r ms
place_same r q [] same = refl
place_same r q (m ∷ ms) same =
    ap (λ b. cond b (Some m.place) (place_in q ms)) (same_any m.request r q same) ∙ ap (λ o. cond (same_request m.request r) (Some m.place) o) (place_same r q ms same)

among_same : (r q : RequestNo) (made : Requests) → same_request r q ≡ true → place_among q made ≡ place_among r made
among_same r q made same = ap (λ o. or_else o (place_in q made.late.items)) (place_same r q made.most.items same) ∙ ap (λ o. or_else (place_in r made.most.items) o) (place_same r q made.late.items same)

none_late : (a b : Option ℕ) → or_else a b ≡ None → b ≡ None
none_late None b none = none
none_late (Some n) b none = absurd (cc)

-- the place of another request stays, and that of one that is not there is new
append_or : (own : Bool) (r q : RequestNo) (p : ℕ) (made : Requests) → same_request r q ≡ own → place_among r made ≡ None
    → or_else (or_else (place_in q made.most.items) (made_if own p)) (place_in q made.late.items) ≡ or_else (place_among q made) (made_if own p)
append_or true r q p made same none =
    let here : place_in q made.late.items ≡ None = place_same r q made.late.items same ∙ none_late (place_in r made.most.items) (place_in r made.late.items) none in
    ap (λ o. or_else (or_else (place_in q made.most.items) (Some p)) o) here
    ∙ or_none (or_else (place_in q made.most.items) (Some p))
    ∙ ap (λ o. or_else o (Some p)) (sym (ap (λ o. or_else (place_in q made.most.items) o) here ∙ or_none (place_in q made.most.items)))
append_or false r q p made same none =
    ap (λ o. or_else o (place_in q made.late.items)) (or_none (place_in q made.most.items)) ∙ sym (or_none (place_among q made))

-- one is appended
pub made_last : (made : Requests) (most : Vec Made) (r : RequestNo) (p : ℕ) → AreInOrder made → AllBefore r made.most.items → place_among r made ≡ None → most.items ≡ made.most.items ++ record { request = r; place = p } ∷ []
    → vec_capacity made.most ≤ vec_capacity most → HasMade made (record { most = most; late = made.late; merged = made.merged }) r p
made_last made most r p order all none is capacity =
    let new : Made = record { request = r; place = p } in
    record {
      order = record { most = subst AreSorted (sym is) (sorted_push made.most.items new order.most all); late = order.late; few = order.few; merged = order.merged };
      places = λ q.
          (ap (λ xs. or_else (place_in q xs) (place_in q made.late.items)) is
          ∙ ap (λ o. or_else o (place_in q made.late.items)) (placed_push q made.most.items new)
          ∙ append_or (same_request r q) r q p made refl none);
      few = omega (arith, ap (λ (xs : List Made). length xs) is, length-append made.most.items (new ∷ []));
      room = λ n had. record { most = omega (arith, had.most, capacity); merged = had.merged; late = had.late };
    }

-- one is put among those that came late
pub made_late : (made mid : Requests) (late : Vec Made) (r : RequestNo) (p : ℕ) → KeepPlaces made mid → length mid.late.items < MOST_LATE → late.items ≡ with_made r p mid.late.items
    → vec_capacity mid.late ≤ vec_capacity late → HasMade made (record { most = mid.most; late = late; merged = mid.merged }) r p
made_late made mid late r p kept free is capacity =
    let few = few_with r p mid.late.items in
    let count : length late.items ≡ length (with_made r p mid.late.items) = ap (λ (xs : List Made). length xs) is in
    record {
      order = record { most = kept.order.most; late = subst AreSorted (sym is) (sorted_with r p mid.late.items kept.order.late); few = omega (arith, few, count, free); merged = kept.order.merged };
      places = λ q.
          (ap (λ xs. or_else (place_in q mid.most.items) (place_in q xs)) is
          ∙ ap (λ o. or_else (place_in q mid.most.items) o) (placed r q p mid.late.items kept.order.late)
          ∙ sym (or_assoc (place_in q mid.most.items) (place_in q mid.late.items) (made_if (same_request r q) p))
          ∙ ap (λ o. or_else o (made_if (same_request r q) p)) (kept.places q));
      few = omega (arith, few, count, kept.few);
      room = λ n had. (let has = kept.room n had in record { most = has.most; merged = has.merged; late = omega (arith, has.late, capacity) });
    }

-- both lists are merged
pub made_merged : (made : Requests) (most merged late : Vec Made) → AreInOrder made → AreSorted most.items
    → ((q : RequestNo) → place_in q most.items ≡ or_else (place_in q made.most.items) (place_in q made.late.items)) → length most.items ≤ length made.most.items + length made.late.items
    → vec_capacity made.merged ≤ vec_capacity most → merged.items ≡ [] → vec_capacity made.most ≤ vec_capacity merged → late.items ≡ [] → vec_capacity made.late ≤ vec_capacity late
    → KeepPlaces made (record { most = most; late = late; merged = merged })
made_merged made most merged late order sorted places few more empty more_merged none more_late = record {
  order = record { most = sorted; late = subst AreSorted (sym none) tt; few = omega (arith, ap (λ (xs : List Made). length xs) none); merged = empty };
  places = λ q. (ap (λ xs. or_else (place_in q most.items) (place_in q xs)) none ∙ or_none (place_in q most.items) ∙ places q);
  few = omega (arith, few, ap (λ (xs : List Made). length xs) none);
  room = λ n had. record { most = omega (arith, had.merged, more); merged = omega (arith, had.most, more_merged); late = omega (arith, had.late, more_late) };
}

-- nothing is made of a request that is there
or_there : (n : ℕ) (o x : Option ℕ) → o ≡ Some n → o ≡ or_else o x
or_there n o x is = is ∙ ap (λ a. or_else a x) (sym is)

there_or : (own : Bool) (r q : RequestNo) (p n : ℕ) (made : Requests) → same_request r q ≡ own → place_among r made ≡ Some n → place_among q made ≡ or_else (place_among q made) (made_if own p)
there_or true r q p n made same there = or_there n (place_among q made) (Some p) (among_same r q made same ∙ there)
there_or false r q p n made same there = sym (or_none (place_among q made))

pub made_there : (made : Requests) (r : RequestNo) (p n : ℕ) → AreInOrder made → place_among r made ≡ Some n → HasMade made made r p
made_there made r p n order there = record {
  order = order;
  places = λ q. there_or (same_request r q) r q p n made refl there;
  few = omega arith;
  room = λ n had. had;
}

-- nothing changes where there is room
pub made_kept : (made : Requests) → AreInOrder made → KeepPlaces made made
made_kept made order = record { order = order; places = λ q. refl; few = omega arith; room = λ n had. had }

-- memory for fewer
pub room_less : (made : Requests) (m n : ℕ) → m ≤ n → HaveRoom made n → HaveRoom made m
room_less made m n less had = record { most = omega (arith, had.most); merged = omega (arith, had.merged); late = omega (arith, had.late) }

-- memory for the greater of two numbers
pub room_max : (made : Requests) (m n : ℕ) → HaveRoom made m → HaveRoom made n → HaveRoom made (max m n)
room_max made m n had has = record { most = omega (arith, had.most, has.most); merged = omega (arith, had.merged, has.merged); late = omega (arith, had.late, has.late) }

more_entries : (n : ℕ) (es : List Entry) (e : Entry) → n ≤ length es + 1 → n ≤ length (es ++ e ∷ [])
more_entries n es e few = omega (arith, few, length-append es (e ∷ []))

-- an entry that is no commit
made_other : (made : Requests) (es : List Entry) (e : Entry) → ((r : RequestNo) → is_commit_of r e ≡ false) → AreMade made es → AreMade made (es ++ e ∷ [])
made_other made es e none are = record {
  order = are.order;
  places = λ r. are.places r ∙ sym (place_push r es e ∙ ap (λ b. or_else (position (is_commit_of r) es) (made_if b (length es))) (none r) ∙ or_none (position (is_commit_of r) es));
  few = more_entries (made_count made) es e (omega (arith, are.few));
}

-- the requests of the entries with one entry more
pub made_push : (old new : Requests) (es : List Entry) (p : ℕ) (e : Entry) → p ≡ length es → AreMade old es → HasMadeOf old new p e → AreMade new (es ++ e ∷ [])
made_push old new es p (Commit e) at are has = record {
  order = has.order;
  places = λ r.
      (has.places r ∙ ap (λ o. or_else o (made_if (same_request e.request r) p)) (are.places r)
      ∙ ap (λ n. or_else (position (is_commit_of r) es) (made_if (same_request e.request r) n)) at ∙ sym (place_push r es (Commit e)));
  few = more_entries (made_count new) es (Commit e) (omega (arith, has.few, are.few));
}
made_push old new es p (Down s) at are has = subst (λ (made : Requests). AreMade made (es ++ Down s ∷ [])) (sym has) (made_other old es (Down s) (λ r. refl) are)
made_push old new es p (Up s) at are has = subst (λ (made : Requests). AreMade made (es ++ Up s ∷ [])) (sym has) (made_other old es (Up s) (λ r. refl) are)

pub room_push : (old new : Requests) (p n : ℕ) (e : Entry) → HasMadeOf old new p e → HaveRoom old n → HaveRoom new n
room_push old new p n (Commit e) has had = has.room n had
room_push old new p n (Down s) has had = subst (λ (made : Requests). HaveRoom made n) (sym has) had
room_push old new p n (Up s) has had = subst (λ (made : Requests). HaveRoom made n) (sym has) had

-- the same requests, whatever memory they have
pub made_same : (old new : Requests) (es : List Entry) → AreSame old new → AreMade old es → AreMade new es
made_same old new es same are = record {
  order = record {
    most = subst AreSorted (sym same.most) are.order.most;
    late = subst AreSorted (sym same.late) are.order.late;
    few = omega (arith, ap (λ (xs : List Made). length xs) same.late, are.order.few);
    merged = same.merged ∙ are.order.merged;
  };
  places = λ r. (ap (λ xs. or_else (place_in r xs) (place_in r new.late.items)) same.most ∙ ap (λ xs. or_else (place_in r old.most.items) (place_in r xs)) same.late ∙ are.places r);
  few = omega (arith, ap (λ (xs : List Made). length xs) same.late, ap (λ (xs : List Made). length xs) same.most, are.few);
}
