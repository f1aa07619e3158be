-- What each call keeps of the limits, and what a take gives.
use Rattle.std.proofs.Common.{◌≡◌, ◌∙◌, ℕ, ◌+◌, ◌-◌, ◌/◌, ◌<◌, ◌≤◌, ◌%◌, ◌==◌, if◌then◌else◌, Bool, true, false, nat_lt, List, [], ◌∷◌, ◌++◌, All, length, map, filter, take, drop, get_or, Option, Some, None, suc, zero, refl, sym, ap, arith, length-append, length-take, subst, slice_get}
use Rattle.std.specs.List.{list_any, range_with_len}
use Rattle.std.proofs.lemmas.Bool.Decides.{nat_tests}
use Rattle.std.proofs.lemmas.List.Elements.{All-take, All-map, filter-append}
use Rattle.std.proofs.lemmas.List.{take-map, length-map, take-append-drop}
use Rattle.crash_base.specs.declared.numbers.BrickNo.{BrickNo}
use Rattle.send_windows.specs.declared.fact.WindowFact.{WindowFact}
use Rattle.send_windows.specs.declared.pass.Pass.{Pass}
use Rattle.send_windows.specs.declared.pass.PassMark.{PassMark}
use Rattle.send_windows.specs.declared.pass.PassMark.TheVariants.{Unheard}
use Rattle.send_windows.specs.declared.history.WindowMark.{WindowMark}
use Rattle.send_windows.specs.declared.fact.TheConstants.{LEAST_WINDOW, LARGEST_WINDOW, MAX_BRICKS}
use Rattle.send_windows.specs.Passes.{unheard, with_mark}
use Rattle.send_windows.specs.Facts.{open_count, window_after, spent, all_spent, first_fact, first_facts, fact_of, is_open, open_pass, open_passes, full_facts, round_from, IsWithinLimits, given}
use Rattle.send_windows.specs.declared.history.WindowMark.TheVariants.{Opened, Taken, Refused, Spent}
use Rattle.send_windows.specs.declared.pass.PassMark.TheVariants as mark
use Rattle.send_windows.specs.Calls.{WindowCall, TryPass, Take, Answered, Silent, Spend, after_call}
use Rattle.std.proofs.lemmas.List.FromFn.{length-map-range_with_len}
use Rattle.send_windows.specs.Windows.{new_windows, pass_tried, with_given, with_tried, after_pass, refused, taken, WindowsValue, KeepLimits, AreTaken, chosen}
use Rattle.send_windows.proofs.Tallies.{weight, any_tally, full_stands, open_stands, tally, numbers, pass_numbers, tally-take, tally_range, tally-round, open_or_full, distinct_from_tally}

-- no number stands twice among the bricks
pub once : (s : WindowsValue) → KeepLimits s → (n : ℕ) → tally n (numbers s.facts) ≤ 1
once s keeps n = rw keeps.numbered (tally_range n 1 (length s.facts))

-- a pass to a brick stands among those of a take at most as often as among all bricks with room
pub chosen_tally : (s : WindowsValue) (first n : ℕ) → tally n (pass_numbers (chosen s first)) ≤ tally n (pass_numbers (open_passes s.facts))
chosen_tally s first n =
    let all = open_passes (round_from first s.facts) in
    let some : tally n (pass_numbers (take s.w all)) ≤ tally n (pass_numbers all) = rw (← take-map (λ (pass : Pass). pass.brick.0) s.w all) (tally-take n s.w (pass_numbers all)) in
    let round = tally-round n first s.facts in
    omega arith

pub open_tally : (facts : List WindowFact) (n : ℕ) → tally n (pass_numbers (open_passes facts)) ≤ tally n (numbers facts)
open_tally facts n = let parts = open_or_full n facts in omega arith

-- going round from a place changes nothing in how many windows are open
pub length-round : (at : ℕ) (facts : List WindowFact) → length (open_passes (drop at facts ++ take at facts)) ≡ open_count facts
length-round at facts =
    length-map (filter is_open (drop at facts ++ take at facts)) (λ (fact : WindowFact). unheard fact.brick)
    ∙ (count_parts (drop at facts) (take at facts)
    ∙ (swap ∙ (sym (count_parts (take at facts) (drop at facts)) ∙ ap open_count (take-append-drop at facts))))
  where
    count_parts : (xs ys : List WindowFact) → open_count (xs ++ ys) ≡ open_count xs + open_count ys
    count_parts xs ys = ap length (filter-append is_open xs ys) ∙ length-append (filter is_open xs) (filter is_open ys)

    swap : open_count (drop at facts) + open_count (take at facts) ≡ open_count (take at facts) + open_count (drop at facts)
    swap = omega arith

pub are_taken : (s : WindowsValue) (first : ℕ) → KeepLimits s → s.wq ≤ open_count s.facts → AreTaken s.wq s.w (chosen s first)
are_taken s first keeps enough = record {
  unheard = All-take (λ (pass : Pass). pass.mark ≡ Unheard) s.w (open_passes (round_from first s.facts)) (All-map (λ (pass : Pass). pass.mark ≡ Unheard) (λ (fact : WindowFact). unheard fact.brick) (filter is_open (round_from first s.facts)) (λ k d within. refl));
  distinct = distinct_from_tally (chosen s first) (λ n.
      let a = chosen_tally s first n in let b = open_tally s.facts n in let c = once s keeps n in omega arith);
  enough = (let round = length-round (first % length s.facts) s.facts in let size = length-take s.w (open_passes (round_from first s.facts)) in let more = keeps.enough in omega arith);
  most = (let size = length-take s.w (open_passes (round_from first s.facts)) in omega arith);
}

same_numbers : (f : WindowFact → WindowFact) → ((x : WindowFact) → (f x).brick ≡ x.brick) → (facts : List WindowFact) → numbers (map f facts) ≡ numbers facts
same_numbers f same [] = refl
same_numbers f same (x ∷ xs) =
    let first : (f x).brick.0 ≡ x.brick.0 = ap (λ (b : BrickNo). b.0) (same x) in
    let rest = same_numbers f same xs in
    cc

pub given_brick : (passes : List Pass) (fact : WindowFact) → (given passes fact).brick ≡ fact.brick
given_brick passes fact = go (list_any (λ (pass : Pass). pass.brick.0 == fact.brick.0) passes)
  where
    go : (b : Bool) → (if b then record fact { in_flight = fact.in_flight + 1 } else fact).brick ≡ fact.brick
    go true = refl
    go false = refl

pub spent_brick : (pass : Pass) (fact : WindowFact) → (spent pass fact).brick ≡ fact.brick
spent_brick pass fact = go (pass.brick.0 == fact.brick.0)
  where
    go : (b : Bool) → (if b then record fact { window = window_after fact.window pass.mark; in_flight = fact.in_flight - 1 } else fact).brick ≡ fact.brick
    go true = refl
    go false = refl

-- other facts of the same bricks
pub keep_facts : (s : WindowsValue) (facts : List WindowFact) → KeepLimits s
    → numbers facts ≡ numbers s.facts → All IsWithinLimits facts → KeepLimits (record s { facts = facts })
keep_facts s facts keeps same limits =
    let size : length facts ≡ length s.facts = sym (length-map facts (λ (fact : WindowFact). fact.brick.0)) ∙ (ap length same ∙ length-map s.facts (λ (fact : WindowFact). fact.brick.0)) in
    record {
      some = keeps.some;
      enough = keeps.enough;
      within = rw size keeps.within;
      few = rw size keeps.few;
      numbered = same ∙ (keeps.numbered ∙ ap (range_with_len 1) (sym size));
      limits = limits;
      opened = rw size keeps.opened;
    }

-- a further mark
pub keep_mark : (s : WindowsValue) (mark : WindowMark) → KeepLimits s → KeepLimits (record s { history = s.history ++ mark ∷ [] })
keep_mark s mark keeps =
    record {
      some = keeps.some;
      enough = keeps.enough;
      within = keeps.within;
      few = keeps.few;
      numbered = keeps.numbered;
      limits = keeps.limits;
      opened = first s.history (Opened (length s.facts) s.w s.wq s.holds) keeps.opened;
    }
  where
    first : (history : List WindowMark) (at_first : WindowMark) → slice_get history 0 ≡ Some at_first → slice_get (history ++ mark ∷ []) 0 ≡ Some at_first
    first [] at_first is = absurd (cc)
    first (h ∷ hs) at_first is = is

window_stays : (window : ℕ) (mark : PassMark) → LEAST_WINDOW ≤ window → window ≤ LARGEST_WINDOW
    → (LEAST_WINDOW ≤ window_after window mark) × (window_after window mark ≤ LARGEST_WINDOW)
window_stays window Unheard least largest = (least, largest)
window_stays window mark.Answered least largest = go (nat_lt window LARGEST_WINDOW) refl
  where
    go : (b : Bool) → nat_lt window LARGEST_WINDOW ≡ b
        → (LEAST_WINDOW ≤ (if b then window + 1 else LARGEST_WINDOW)) × ((if b then window + 1 else LARGEST_WINDOW) ≤ LARGEST_WINDOW)
    go true is = let less : window < LARGEST_WINDOW = grind (arith, nat_tests) in (omega arith, omega arith)
    go false is = (omega arith, omega arith)
window_stays window mark.Silent least largest = go (nat_lt (window / 2) LEAST_WINDOW) refl
  where
    go : (b : Bool) → nat_lt (window / 2) LEAST_WINDOW ≡ b
        → (LEAST_WINDOW ≤ (if b then LEAST_WINDOW else window / 2)) × ((if b then LEAST_WINDOW else window / 2) ≤ LARGEST_WINDOW)
    go true is = (omega arith, omega arith)
    go false is = let more : LEAST_WINDOW ≤ window / 2 = grind (arith, nat_tests) in (more, omega arith)

spent_stays : (pass : Pass) (fact : WindowFact) → IsWithinLimits fact → IsWithinLimits (spent pass fact)
spent_stays pass fact keeps = go (pass.brick.0 == fact.brick.0)
  where
    go : (b : Bool) → IsWithinLimits (if b then record fact { window = window_after fact.window pass.mark; in_flight = fact.in_flight - 1 } else fact)
    go true =
        let window = window_stays fact.window pass.mark keeps.least keeps.largest in
        let few = keeps.few_in_flight in
        record { least = window.0; largest = window.1; few_in_flight = omega arith }
    go false = keeps

-- a pass is given where there is room
given_stays : (facts : List WindowFact) (passes : List Pass) → ((n : ℕ) → tally n (numbers facts) ≤ 1)
    → ((n : ℕ) → tally n (pass_numbers passes) ≤ tally n (pass_numbers (open_passes facts)))
    → All IsWithinLimits facts → All IsWithinLimits (map (given passes) facts)
given_stays facts passes once room limits = All-map IsWithinLimits (given passes) facts each
  where
    at : (fact : WindowFact) → (is_open fact ≡ false → 1 ≤ tally fact.brick.0 (numbers (full_facts facts))) → IsWithinLimits fact
        → (b : Bool) → list_any (λ (pass : Pass). pass.brick.0 == fact.brick.0) passes ≡ b
        → IsWithinLimits (if b then record fact { in_flight = fact.in_flight + 1 } else fact)
    at fact stands keeps false is = keeps
    at fact stands keeps true is =
        record { least = keeps.least; largest = keeps.largest; few_in_flight = few (is_open fact) refl }
      where
        given_is : 1 ≤ tally fact.brick.0 (pass_numbers passes)
        given_is = let same : nat_lt 0 (tally fact.brick.0 (pass_numbers passes)) ≡ true = sym (any_tally fact.brick.0 passes) ∙ is in grind (arith, nat_tests)

        few : (b : Bool) → is_open fact ≡ b → fact.in_flight + 1 ≤ LARGEST_WINDOW
        few true open_is = let less : fact.in_flight < fact.window = grind (arith, nat_tests) in let most = keeps.largest in omega arith
        few false full =
            let stood = stands full in
            let parts = open_or_full fact.brick.0 facts in
            let one = once fact.brick.0 in
            let some = room fact.brick.0 in
            let given_one = given_is in
            absurd (omega arith)

    each : All (λ (fact : WindowFact). IsWithinLimits (given passes fact)) facts
    each k d within =
        let fact = get_or facts k d in
        at fact (full_stands facts k d within) (limits k d within) (list_any (λ (pass : Pass). pass.brick.0 == fact.brick.0) passes) refl

pub given_keeps : (s : WindowsValue) (passes : List Pass) → KeepLimits s
    → ((n : ℕ) → tally n (pass_numbers passes) ≤ tally n (pass_numbers (open_passes s.facts)))
    → KeepLimits (with_given s passes)
given_keeps s passes keeps room =
    keep_facts s (map (given passes) s.facts) keeps (same_numbers (given passes) (given_brick passes) s.facts)
    (given_stays s.facts passes (once s keeps) room keeps.limits)

pub spent_keeps : (s : WindowsValue) (pass : Pass) → KeepLimits s
    → KeepLimits (after_pass s pass)
spent_keeps s pass keeps =
    keep_facts s (map (spent pass) s.facts) keeps (same_numbers (spent pass) (spent_brick pass) s.facts)
    (All-map IsWithinLimits (spent pass) s.facts (λ k d within. spent_stays pass (get_or s.facts k d) (keeps.limits k d within)))

pub all_spent_keeps : (s : WindowsValue) (passes : List Pass) → KeepLimits s → KeepLimits (record s { facts = all_spent s.facts passes })
all_spent_keeps s [] keeps = keeps
all_spent_keeps s (pass ∷ passes) keeps = all_spent_keeps (after_pass s pass) passes (spent_keeps s pass keeps)

pub tried_room : (brick : BrickNo) (fact : WindowFact) (facts : List WindowFact) → fact_of facts brick ≡ Some fact → is_open fact ≡ true
    → (n : ℕ) → tally n (pass_numbers (unheard brick ∷ [])) ≤ tally n (pass_numbers (open_passes facts))
tried_room brick fact facts found room n = go (brick.0 == n) refl
  where
    go : (b : Bool) → (brick.0 == n) ≡ b → weight b + 0 ≤ tally n (pass_numbers (open_passes facts))
    go true same =
        let equal : brick.0 ≡ n = grind (arith, nat_tests) in
        subst (λ (m : ℕ). 1 ≤ tally m (pass_numbers (open_passes facts))) equal (open_stands brick fact facts found room)
    go false same = omega arith

pub new_keeps : (bricks w wq : ℕ) (holds : Bool) → 1 ≤ wq → wq ≤ w → w ≤ bricks → bricks ≤ MAX_BRICKS → KeepLimits (new_windows bricks w wq holds)
new_keeps bricks w wq holds some enough within few =
    let size : length (first_facts bricks) ≡ bricks = length-map-range_with_len first_fact 1 bricks in
    record {
      some = some;
      enough = enough;
      within = rw size within;
      few = rw size few;
      numbered = firsts 1 bricks ∙ ap (range_with_len 1) (sym size);
      opened = rw size refl;
      limits = All-map IsWithinLimits first_fact (range_with_len 1 bricks) (λ k d at. record { least = omega arith; largest = omega arith; few_in_flight = omega arith });
    }
  where
    firsts : (a n : ℕ) → numbers (map first_fact (range_with_len a n)) ≡ range_with_len a n
    firsts a zero = refl
    firsts a (suc n) = ap (λ ks. a ∷ ks) (firsts (a + 1) n)

-- a pass that was tried is given where there is room
pub try_keeps : (s : WindowsValue) (brick : BrickNo) (pass : Pass) → KeepLimits s → open_pass brick (fact_of s.facts brick) ≡ Some pass
    → KeepLimits (with_given s (pass ∷ []))
try_keeps s brick pass keeps is = by_found (fact_of s.facts brick) refl is
  where
    by_room : (fact : WindowFact) → fact_of s.facts brick ≡ Some fact → (b : Bool) → is_open fact ≡ b
        → (if b then Some (unheard brick) else None) ≡ Some pass → KeepLimits (with_given s (pass ∷ []))
    by_room fact found false full given_is = absurd (cc)
    by_room fact found true room given_is =
        let it : unheard brick ≡ pass = cc in
        subst (λ (p : Pass). KeepLimits (with_given s (p ∷ []))) it
        (given_keeps s (unheard brick ∷ []) keeps (tried_room brick fact s.facts found room))

    by_found : (found : Option WindowFact) → fact_of s.facts brick ≡ found → open_pass brick found ≡ Some pass → KeepLimits (with_given s (pass ∷ []))
    by_found None found given_is = absurd (cc)
    by_found (Some fact) found given_is = by_room fact found (is_open fact) refl given_is

pub call_keeps : (s : WindowsValue) (call : WindowCall) → KeepLimits s → KeepLimits (after_call s call)
call_keeps s (TryPass brick) keeps = tried (pass_tried s brick) refl
  where
    tried : (found : Option Pass) → pass_tried s brick ≡ found → KeepLimits (with_tried s found)
    tried None is = keeps
    tried (Some pass) is = try_keeps s brick pass keeps is
call_keeps s (Take first) keeps = go (nat_lt (open_count s.facts) s.wq)
  where
    go : (b : Bool) → KeepLimits (if b then refused s else taken s (chosen s first))
    go true = keep_mark s Refused keeps
    go false = keep_mark (with_given s (chosen s first)) (Taken (length (chosen s first))) (given_keeps s (chosen s first) keeps (chosen_tally s first))
call_keeps s (Answered pass) keeps = spent_keeps s (with_mark pass mark.Answered) keeps
call_keeps s (Silent pass) keeps = spent_keeps s (with_mark pass mark.Silent) keeps
call_keeps s (Spend passes) keeps = keep_mark (record s { facts = all_spent s.facts passes }) Spent (all_spent_keeps s passes keeps)
