-- How each call moves the fact of a brick.
use Rattle.std.proofs.Common.{◌≡◌, ◌∙◌, ◌≢◌, ℕ, ◌+◌, ◌-◌, ◌<◌, ◌≤◌, ◌==◌, if◌then◌else◌, Bool, true, false, nat_lt, List, [], ◌∷◌, ◌++◌, length, map, drop, get_or, option_map, Option, Some, None, suc, zero, refl, sym, ap, arith}
use Rattle.std.specs.List.{list_any, fold, flat_map, range_with_len}
use Rattle.std.proofs.lemmas.Bool.Decides.{nat_tests}
use Rattle.std.proofs.lemmas.List.Elements.{filter-append}
use Rattle.std.proofs.lemmas.List.Sums.{fold-append}
use Rattle.crash_base.specs.declared.numbers.BrickNo.{BrickNo}
use Rattle.send_windows.specs.declared.fact.TheConstants.{FIRST_WINDOW, MAX_BRICKS}
use Rattle.send_windows.specs.declared.fact.WindowFact.{WindowFact}
use Rattle.send_windows.specs.declared.history.WindowMark.{WindowMark}
use Rattle.send_windows.specs.declared.history.WindowMark.TheVariants.{Taken, Spent}
use Rattle.send_windows.specs.declared.pass.Pass.{Pass}
use Rattle.send_windows.specs.declared.pass.PassMark.TheVariants as mark
use Rattle.send_windows.specs.Passes.{unheard, with_mark}
use Rattle.send_windows.specs.Facts.{open_count, window_after, is_open, open_pass, spent, all_spent, given, first_fact, fact_of}
use Rattle.send_windows.specs.Windows.{WindowsValue, KeepLimits, new_windows, with_tried, chosen, refused, taken}
use Rattle.send_windows.specs.Calls.{WindowCall, TryPass, Take, Answered, Silent, Spend, after_call, after_calls, pass_or_none, passes_to, spent_by, given_by, in_flight_after, in_flight_after_calls, fact_by_calls}
use Rattle.send_windows.proofs.Tallies.{tally, numbers, pass_numbers, any_tally, length_tally}
use Rattle.send_windows.proofs.Keeping.{once, chosen_tally, open_tally, tried_room, given_brick, spent_brick, new_keeps, call_keeps}

-- what is written over each fact is found where the fact was
fact_of-map : (f : WindowFact → WindowFact) → ((x : WindowFact) → (f x).brick ≡ x.brick) → (facts : List WindowFact) (brick : BrickNo)
    → fact_of (map f facts) brick ≡ option_map f (fact_of facts brick)
fact_of-map f same [] brick = refl
fact_of-map f same (x ∷ xs) brick =
    ap (λ (b : BrickNo). if b.0 == brick.0 then Some (f x) else fact_of (map f xs) brick) (same x) ∙ go (x.brick.0 == brick.0) (fact_of-map f same xs brick)
  where
    go : (b : Bool) → fact_of (map f xs) brick ≡ option_map f (fact_of xs brick)
        → (if b then Some (f x) else fact_of (map f xs) brick) ≡ option_map f (if b then Some x else fact_of xs brick)
    go true rest = refl
    go false rest = rest

abbrev fact_is : BrickNo → ℕ → ℕ → WindowFact
fact_is brick window out = record { brick = brick; window = window; in_flight = out }

abbrev window_by : ℕ → List Pass → ℕ
window_by window passes = fold (λ (w : ℕ) (pass : Pass). window_after w pass.mark) window passes

found_after : (f : WindowFact → WindowFact) → ((x : WindowFact) → (f x).brick ≡ x.brick) → (facts : List WindowFact) (brick : BrickNo) (fact : WindowFact)
    → fact_of facts brick ≡ Some fact → fact_of (map f facts) brick ≡ Some (f fact)
found_after f same facts brick fact found = fact_of-map f same facts brick ∙ ap (option_map f) found

-- passes that were spent
all_spent_found : (passes : List Pass) (facts : List WindowFact) (brick : BrickNo) (window out : ℕ)
    → fact_of facts brick ≡ Some (fact_is brick window out)
    → fact_of (all_spent facts passes) brick ≡ Some (fact_is brick (window_by window (passes_to brick passes)) (out - length (passes_to brick passes)))
all_spent_found [] facts brick window out found =
    let same : out ≡ out - 0 = omega arith in
    found ∙ ap (λ o. Some (fact_is brick window o)) same
all_spent_found (pass ∷ passes) facts brick window out found =
    go (pass.brick.0 == brick.0) refl
    (all_spent_found passes (map (spent pass) facts) brick (window_after window pass.mark) (out - 1))
    (all_spent_found passes (map (spent pass) facts) brick window out)
  where
    moved : fact_of (map (spent pass) facts) brick ≡ Some (spent pass (fact_is brick window out))
    moved = found_after (spent pass) (spent_brick pass) facts brick (fact_is brick window out) found

    go : (b : Bool) → (pass.brick.0 == brick.0) ≡ b
        → (fact_of (map (spent pass) facts) brick ≡ Some (fact_is brick (window_after window pass.mark) (out - 1))
        → fact_of (all_spent (map (spent pass) facts) passes) brick
        ≡ Some (fact_is brick (window_by (window_after window pass.mark) (passes_to brick passes)) (out - 1 - length (passes_to brick passes))))
        → (fact_of (map (spent pass) facts) brick ≡ Some (fact_is brick window out)
        → fact_of (all_spent (map (spent pass) facts) passes) brick
        ≡ Some (fact_is brick (window_by window (passes_to brick passes)) (out - length (passes_to brick passes))))
        → fact_of (all_spent (map (spent pass) facts) passes) brick
        ≡ Some (fact_is brick (window_by window (if b then pass ∷ passes_to brick passes else passes_to brick passes)) (out - length (if b then pass ∷ passes_to brick passes else passes_to brick passes)))
    go true is hit miss =
        let now : Some (spent pass (fact_is brick window out)) ≡ Some (fact_is brick (window_after window pass.mark) (out - 1)) = rw is refl in
        let less : out - 1 - length (passes_to brick passes) ≡ out - length (pass ∷ passes_to brick passes) = omega arith in
        hit (moved ∙ now) ∙ ap (λ o. Some (fact_is brick (window_by (window_after window pass.mark) (passes_to brick passes)) o)) less
    go false is hit miss =
        let now : Some (spent pass (fact_is brick window out)) ≡ Some (fact_is brick window out) = rw is refl in
        miss (moved ∙ now)

-- passes that were given, none to one brick twice
given_found : (passes : List Pass) (facts : List WindowFact) (brick : BrickNo) (window out : ℕ)
    → tally brick.0 (pass_numbers passes) ≤ 1
    → fact_of facts brick ≡ Some (fact_is brick window out)
    → fact_of (map (given passes) facts) brick ≡ Some (fact_is brick window (out + length (passes_to brick passes)))
given_found passes facts brick window out few found =
    found_after (given passes) (given_brick passes) facts brick (fact_is brick window out) found
    ∙ (go (list_any (λ (pass : Pass). pass.brick.0 == brick.0) passes) (any_tally brick.0 passes) ∙ ap (λ n. Some (fact_is brick window (out + n))) (sym (length_tally brick.0 passes)))
  where
    go : (b : Bool) → b ≡ nat_lt 0 (tally brick.0 (pass_numbers passes))
        → Some (if b then fact_is brick window (out + 1) else fact_is brick window out) ≡ Some (fact_is brick window (out + tally brick.0 (pass_numbers passes)))
    go true is =
        let some : 0 < tally brick.0 (pass_numbers passes) = (let h = sym is in grind (arith, nat_tests)) in
        let one : out + 1 ≡ out + tally brick.0 (pass_numbers passes) = omega arith in
        ap (λ o. Some (fact_is brick window o)) one
    go false is =
        let none : tally brick.0 (pass_numbers passes) ≤ 0 = (let h = sym is in grind (arith, nat_tests)) in
        let same : out ≡ out + tally brick.0 (pass_numbers passes) = omega arith in
        ap (λ o. Some (fact_is brick window o)) same

-- a call moves the fact of a brick by the passes that it gives and spends
abbrev Moves : WindowsValue → BrickNo → ℕ → ℕ → List Pass → List Pass → WindowsValue → Type 0
Moves s brick window out given_ones spent_ones next =
    fact_of next.facts brick ≡ Some (fact_is brick (window_by window (passes_to brick spent_ones)) ((out + length (passes_to brick given_ones)) - length (passes_to brick spent_ones)))

less_none : (brick : BrickNo) (window out : ℕ) → Some (fact_is brick window out) ≡ Some (fact_is brick window ((out + 0) - 0))
less_none brick window out = ap (λ o. Some (fact_is brick window o)) (let same : out ≡ (out + 0) - 0 = omega arith in same)

given_moves : (s : WindowsValue) (passes : List Pass) (history : List WindowMark) (brick : BrickNo) (window out : ℕ)
    → tally brick.0 (pass_numbers passes) ≤ 1 → fact_of s.facts brick ≡ Some (fact_is brick window out)
    → Moves s brick window out passes [] (record s { facts = map (given passes) s.facts; history = history })
given_moves s passes history brick window out few found =
    given_found passes s.facts brick window out few found
    ∙ ap (λ o. Some (fact_is brick window o)) (let same : out + length (passes_to brick passes) ≡ (out + length (passes_to brick passes)) - 0 = omega arith in same)

spent_moves : (s : WindowsValue) (passes : List Pass) (history : List WindowMark) (brick : BrickNo) (window out : ℕ)
    → fact_of s.facts brick ≡ Some (fact_is brick window out)
    → Moves s brick window out [] passes (record s { facts = all_spent s.facts passes; history = history })
spent_moves s passes history brick window out found =
    all_spent_found passes s.facts brick window out found
    ∙ ap (λ o. Some (fact_is brick (window_by window (passes_to brick passes)) o)) (let same : out - length (passes_to brick passes) ≡ (out + 0) - length (passes_to brick passes) = omega arith in same)

call_moves : (s : WindowsValue) (call : WindowCall) (brick : BrickNo) (window out : ℕ) → KeepLimits s
    → fact_of s.facts brick ≡ Some (fact_is brick window out)
    → Moves s brick window out (given_by s call) (spent_by call) (after_call s call)
call_moves s (TryPass other) brick window out keeps found = tried (fact_of s.facts other) refl
  where
    by_room : (fact : WindowFact) → fact_of s.facts other ≡ Some fact → (b : Bool) → is_open fact ≡ b
        → Moves s brick window out (pass_or_none (if b then Some (unheard other) else None)) [] (with_tried s (if b then Some (unheard other) else None))
    by_room fact is true room =
        let a = tried_room other fact s.facts is room brick.0 in
        let b = open_tally s.facts brick.0 in
        let c = once s keeps brick.0 in
        given_moves s (unheard other ∷ []) s.history brick window out (omega arith) found
    by_room fact is false full = found ∙ less_none brick window out

    tried : (o : Option WindowFact) → fact_of s.facts other ≡ o
        → Moves s brick window out (pass_or_none (open_pass other o)) [] (with_tried s (open_pass other o))
    tried None is = found ∙ less_none brick window out
    tried (Some fact) is = by_room fact is (is_open fact) refl
call_moves s (Take first) brick window out keeps found = go (nat_lt (open_count s.facts) s.wq)
  where
    go : (b : Bool) → Moves s brick window out (if b then [] else chosen s first) [] (if b then refused s else taken s (chosen s first))
    go true = found ∙ less_none brick window out
    go false =
        let a = chosen_tally s first brick.0 in
        let b = open_tally s.facts brick.0 in
        let c = once s keeps brick.0 in
        given_moves s (chosen s first) (s.history ++ Taken (length (chosen s first)) ∷ []) brick window out (omega arith) found
call_moves s (Answered pass) brick window out keeps found = spent_moves s (with_mark pass mark.Answered ∷ []) s.history brick window out found
call_moves s (Silent pass) brick window out keeps found = spent_moves s (with_mark pass mark.Silent ∷ []) s.history brick window out found
call_moves s (Spend passes) brick window out keeps found = spent_moves s passes (s.history ++ Spent ∷ []) brick window out found

calls_move : (calls : List WindowCall) (s : WindowsValue) (brick : BrickNo) (window out : ℕ) → KeepLimits s
    → fact_of s.facts brick ≡ Some (fact_is brick window out)
    → fact_of (after_calls s calls).facts brick
    ≡ Some (fact_is brick (window_by window (passes_to brick (flat_map spent_by calls))) (in_flight_after_calls brick out s calls))
calls_move [] s brick window out keeps found = found
calls_move (call ∷ calls) s brick window out keeps found =
    let first = passes_to brick (spent_by call) in
    let rest = passes_to brick (flat_map spent_by calls) in
    let parts : passes_to brick (spent_by call ++ flat_map spent_by calls) ≡ first ++ rest = filter-append (λ (pass : Pass). pass.brick.0 == brick.0) (spent_by call) (flat_map spent_by calls) in
    let folds : window_by window (passes_to brick (flat_map spent_by (call ∷ calls))) ≡ window_by (window_by window first) rest =
    ap (window_by window) parts ∙ fold-append (λ (w : ℕ) (pass : Pass). window_after w pass.mark) window first rest in
    calls_move calls (after_call s call) brick (window_by window first) (in_flight_after brick out s call) (call_keeps s call keeps) (call_moves s call brick window out keeps found)
    ∙ ap (λ w. Some (fact_is brick w (in_flight_after_calls brick out s (call ∷ calls)))) (sym folds)

first_found : (a n : ℕ) (brick : BrickNo) → a ≤ brick.0 → brick.0 < a + n → fact_of (map first_fact (range_with_len a n)) brick ≡ Some (fact_is brick FIRST_WINDOW 0)
first_found a zero brick least most = absurd (omega arith)
first_found a (suc n) brick least most = go (a == brick.0) refl (λ more. first_found (a + 1) n brick more (omega arith))
  where
    go : (b : Bool) → (a == brick.0) ≡ b → (a + 1 ≤ brick.0 → fact_of (map first_fact (range_with_len (a + 1) n)) brick ≡ Some (fact_is brick FIRST_WINDOW 0))
        → (if b then Some (first_fact a) else fact_of (map first_fact (range_with_len (a + 1) n)) brick) ≡ Some (fact_is brick FIRST_WINDOW 0)
    go true same rest = let equal : a ≡ brick.0 = grind (arith, nat_tests) in ap (λ m. Some (first_fact m)) equal
    go false same rest = rest (let apart : a ≢ brick.0 = grind (arith, nat_tests) in omega arith)

pub facts_by_calls : (bricks w wq : ℕ) (holds : Bool) (calls : List WindowCall) (brick : BrickNo)
    → 1 ≤ wq → wq ≤ w → w ≤ bricks → bricks ≤ MAX_BRICKS → 1 ≤ brick.0 → brick.0 ≤ bricks
    → fact_of (after_calls (new_windows bricks w wq holds) calls).facts brick
    ≡ Some (fact_by_calls (new_windows bricks w wq holds) calls brick)
facts_by_calls bricks w wq holds calls brick some enough within few least most =
    calls_move calls (new_windows bricks w wq holds) brick FIRST_WINDOW 0 (new_keeps bricks w wq holds some enough within few)
    (first_found 1 bricks brick least (omega arith))

-- one of the bricks is found
found_from : (a : ℕ) (facts : List WindowFact) (brick : BrickNo) → numbers facts ≡ range_with_len a (length facts) → a ≤ brick.0 → brick.0 < a + length facts
    → fact_of facts brick ≢ None
found_from a [] brick in_order least most = absurd (omega arith)
found_from a (fact ∷ facts) brick in_order least most =
    go (fact.brick.0 == brick.0) refl (λ more. found_from (a + 1) facts brick (ap (drop 1) in_order) more (omega arith))
  where
    head : fact.brick.0 ≡ a
    head = ap (λ ks. get_or ks 0 0) in_order

    go : (b : Bool) → (fact.brick.0 == brick.0) ≡ b → (a + 1 ≤ brick.0 → fact_of facts brick ≢ None)
        → (if b then Some fact else fact_of facts brick) ≢ None
    go true same rest = λ is. cc
    go false same rest = rest (let apart : fact.brick.0 ≢ brick.0 = grind (arith, nat_tests) in let here = head in omega arith)

pub is_found : (s : WindowsValue) (brick : BrickNo) → KeepLimits s → 1 ≤ brick.0 → brick.0 ≤ length s.facts → fact_of s.facts brick ≢ None
is_found s brick keeps least most = found_from 1 s.facts brick keeps.numbered least (omega arith)
