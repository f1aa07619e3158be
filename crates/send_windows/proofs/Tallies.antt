-- How often a brick's number stands among facts or passes.
use Rattle.std.proofs.Common.{◌≡◌, ◌∙◌, ◌≢◌, ℕ, ◌+◌, ◌<◌, ◌≤◌, ◌%◌, ◌==◌, ◌||◌, Bool, true, false, nat_lt, not, if◌then◌else◌, List, [], ◌∷◌, ◌++◌, All, length, map, filter, take, drop, get_or, Some, suc, zero, refl, sym, ap, arith}
use Rattle.std.specs.List.{list_any, range_with_len}
use Rattle.std.proofs.lemmas.Bool.Decides.{nat_tests}
use Rattle.std.proofs.lemmas.List.{take-append-drop}
use Rattle.std.proofs.lemmas.List.Elements.{All-nil, All-cons}
use Rattle.crash_base.specs.declared.numbers.BrickNo.{BrickNo}
use Rattle.send_windows.specs.declared.fact.WindowFact.{WindowFact}
use Rattle.send_windows.specs.declared.pass.Pass.{Pass}
use Rattle.send_windows.specs.Passes.{unheard, HaveDistinctBricks}
use Rattle.send_windows.specs.Facts.{fact_of, is_open, open_passes, full_facts, round_from}

abbrev pub weight : Bool → ℕ
weight true = 1
weight false = 0

-- how often a number stands in a list
abbrev pub tally : ℕ → List ℕ → ℕ
tally n [] = 0
tally n (k ∷ ks) = weight (k == n) + tally n ks

abbrev pub numbers : List WindowFact → List ℕ
numbers facts = map (λ (fact : WindowFact). fact.brick.0) facts

abbrev pub pass_numbers : List Pass → List ℕ
pass_numbers passes = map (λ (pass : Pass). pass.brick.0) passes

pub tally-append : (n : ℕ) (xs ys : List ℕ) → tally n (xs ++ ys) ≡ tally n xs + tally n ys
tally-append n [] ys = omega arith
tally-append n (x ∷ xs) ys = let more = tally-append n xs ys in omega arith

pub tally-take : (n w : ℕ) (xs : List ℕ) → tally n (take w xs) ≤ tally n xs
tally-take n w xs =
    let parts : tally n (take w xs) + tally n (drop w xs) ≡ tally n xs = sym (tally-append n (take w xs) (drop w xs)) ∙ ap (tally n) (take-append-drop w xs) in
    omega arith

weight_apart : (a n : ℕ) → a ≢ n → weight (a == n) ≡ 0
weight_apart a n apart = go (a == n) refl
  where
    go : (b : Bool) → (a == n) ≡ b → weight b ≡ 0
    go true same = let equal : a ≡ n = grind (arith, nat_tests) in absurd (apart equal)
    go false same = refl

pub weight_same : (n : ℕ) → weight (n == n) ≡ 1
weight_same n = go (n == n) refl
  where
    go : (b : Bool) → (n == n) ≡ b → weight b ≡ 1
    go true same = refl
    go false same = let apart : n ≢ n = grind (arith, nat_tests) in absurd (apart refl)

tally_below : (n a m : ℕ) → n < a → tally n (range_with_len a m) ≡ 0
tally_below n a zero below = refl
tally_below n a (suc m) below =
    let rest : tally n (range_with_len (a + 1) m) ≡ 0 = tally_below n (a + 1) m (omega arith) in
    let apart : a ≢ n = λ same. (omega arith) in
    let first = weight_apart a n apart in
    omega arith

-- a number stands once at most among numbers in order
pub tally_range : (n a m : ℕ) → tally n (range_with_len a m) ≤ 1
tally_range n a zero = omega arith
tally_range n a (suc m) = go (a == n) refl (tally_range n (a + 1) m)
  where
    go : (b : Bool) → (a == n) ≡ b → tally n (range_with_len (a + 1) m) ≤ 1 → weight b + tally n (range_with_len (a + 1) m) ≤ 1
    go true same few =
        let equal : a ≡ n = grind (arith, nat_tests) in
        let rest = tally_below n (a + 1) m (omega arith) in
        omega arith
    go false same few = omega arith

-- a pass to a brick is among passes exactly where its number stands there
pub any_tally : (n : ℕ) (passes : List Pass) → list_any (λ (pass : Pass). pass.brick.0 == n) passes ≡ nat_lt 0 (tally n (pass_numbers passes))
any_tally n [] = refl
any_tally n (pass ∷ passes) = go (pass.brick.0 == n) (any_tally n passes)
  where
    go : (b : Bool) → list_any (λ (other : Pass). other.brick.0 == n) passes ≡ nat_lt 0 (tally n (pass_numbers passes)) → (b || list_any (λ (other : Pass). other.brick.0 == n) passes) ≡ nat_lt 0 (weight b + tally n (pass_numbers passes))
    go true rest = grind (arith, nat_tests)
    go false rest = let same : tally n (pass_numbers passes) ≡ 0 + tally n (pass_numbers passes) = omega arith in rest ∙ ap (nat_lt 0) same

pub length_tally : (n : ℕ) (passes : List Pass) → length (filter (λ (pass : Pass). pass.brick.0 == n) passes) ≡ tally n (pass_numbers passes)
length_tally n [] = refl
length_tally n (pass ∷ passes) = go (pass.brick.0 == n) (length_tally n passes)
  where
    go : (b : Bool) → length (filter (λ (other : Pass). other.brick.0 == n) passes) ≡ tally n (pass_numbers passes) → length (if b then pass ∷ filter (λ (other : Pass). other.brick.0 == n) passes else filter (λ (other : Pass). other.brick.0 == n) passes) ≡ weight b + tally n (pass_numbers passes)
    go true rest = omega arith
    go false rest = omega arith

-- each brick has room or is full
pub open_or_full : (n : ℕ) (facts : List WindowFact) → tally n (pass_numbers (open_passes facts)) + tally n (numbers (full_facts facts)) ≡ tally n (numbers facts)
open_or_full n [] = refl
open_or_full n (fact ∷ facts) = go (is_open fact) (open_or_full n facts)
  where
    go : (b : Bool) → tally n (pass_numbers (open_passes facts)) + tally n (numbers (full_facts facts)) ≡ tally n (numbers facts) → tally n (pass_numbers (map (λ (f : WindowFact). unheard f.brick) (if b then fact ∷ filter is_open facts else filter is_open facts)))
        + tally n (numbers (if not b then fact ∷ full_facts facts else full_facts facts)) ≡ weight (fact.brick.0 == n) + tally n (numbers facts)
    go true more = omega arith
    go false more = omega arith

-- the number of a full brick stands among the full ones
pub full_stands : (facts : List WindowFact) → All (λ (fact : WindowFact). is_open fact ≡ false → 1 ≤ tally fact.brick.0 (numbers (full_facts facts))) facts
full_stands [] = All-nil (λ (fact : WindowFact). is_open fact ≡ false → 1 ≤ tally fact.brick.0 [])
full_stands (fact ∷ facts) =
    All-cons (λ (other : WindowFact). is_open other ≡ false → 1 ≤ tally other.brick.0 (numbers (full_facts (fact ∷ facts)))) fact facts first (rest (full_stands facts))
  where
    first : is_open fact ≡ false → 1 ≤ tally fact.brick.0 (numbers (full_facts (fact ∷ facts)))
    first full = rw full (let same = weight_same fact.brick.0 in omega arith)

    more : (n : ℕ) (b : Bool) → tally n (numbers (full_facts facts)) ≤ tally n (numbers (if not b then fact ∷ full_facts facts else full_facts facts))
    more n true = omega arith
    more n false = omega arith

    rest : All (λ (other : WindowFact). is_open other ≡ false → 1 ≤ tally other.brick.0 (numbers (full_facts facts))) facts → All (λ (other : WindowFact). is_open other ≡ false → 1 ≤ tally other.brick.0 (numbers (full_facts (fact ∷ facts)))) facts
    rest stands k d within full =
        let one = stands k d within full in
        let grown = more (get_or facts k d).brick.0 (is_open fact) in
        omega arith

-- the number of a brick that is found with room stands among the passes to those with room
pub open_stands : (brick : BrickNo) (fact : WindowFact) (facts : List WindowFact) → fact_of facts brick ≡ Some fact → is_open fact ≡ true → 1 ≤ tally brick.0 (pass_numbers (open_passes facts))
open_stands brick fact [] found room = absurd (cc)
open_stands brick fact (first ∷ facts) found room = go (first.brick.0 == brick.0) refl found (λ is. open_stands brick fact facts is room)
  where
    more : (b : Bool) → tally brick.0 (pass_numbers (open_passes facts)) ≤ tally brick.0 (pass_numbers (map (λ (f : WindowFact). unheard f.brick) (if b then first ∷ filter is_open facts else filter is_open facts)))
    more true = omega arith
    more false = omega arith

    go : (b : Bool) → (first.brick.0 == brick.0) ≡ b → (if b then Some first else fact_of facts brick) ≡ Some fact
        → (fact_of facts brick ≡ Some fact → 1 ≤ tally brick.0 (pass_numbers (open_passes facts))) → 1 ≤ tally brick.0 (pass_numbers (open_passes (first ∷ facts)))
    go true same is stands =
        let it : first ≡ fact = cc in
        let opened : is_open first ≡ true = ap is_open it ∙ room in
        rw (opened, same) (omega arith)
    go false same is stands =
        let one = stands is in
        let grown = more (is_open first) in
        omega arith

-- going round changes nothing in how often a brick stands
pub tally-round : (n first : ℕ) (facts : List WindowFact) → tally n (pass_numbers (open_passes (round_from first facts))) ≡ tally n (pass_numbers (open_passes facts))
tally-round n first facts =
    let at = first % length facts in
    parts (drop at facts) (take at facts) ∙ (swap ∙ (sym (parts (take at facts) (drop at facts)) ∙ ap (λ fs. tally n (pass_numbers (open_passes fs))) (take-append-drop at facts)))
  where
    parts : (xs ys : List WindowFact) → tally n (pass_numbers (open_passes (xs ++ ys))) ≡ tally n (pass_numbers (open_passes xs)) + tally n (pass_numbers (open_passes ys))
    parts [] ys = omega arith
    parts (x ∷ xs) ys = go (is_open x) (parts xs ys)
      where
        go : (b : Bool) → tally n (pass_numbers (open_passes (xs ++ ys))) ≡ tally n (pass_numbers (open_passes xs)) + tally n (pass_numbers (open_passes ys)) → tally n (pass_numbers (map (λ (f : WindowFact). unheard f.brick) (if b then x ∷ filter is_open (xs ++ ys) else filter is_open (xs ++ ys))))
            ≡ tally n (pass_numbers (map (λ (f : WindowFact). unheard f.brick) (if b then x ∷ filter is_open xs else filter is_open xs))) + tally n (pass_numbers (open_passes ys))
        go true more = omega arith
        go false more = more

    swap : tally n (pass_numbers (open_passes (drop (first % length facts) facts))) + tally n (pass_numbers (open_passes (take (first % length facts) facts)))
        ≡ tally n (pass_numbers (open_passes (take (first % length facts) facts))) + tally n (pass_numbers (open_passes (drop (first % length facts) facts)))
    swap = omega arith

-- passes among which no number stands twice are to distinct bricks
pub distinct_from_tally : (passes : List Pass) → ((n : ℕ) → tally n (pass_numbers passes) ≤ 1) → HaveDistinctBricks passes
distinct_from_tally [] once = tt
distinct_from_tally (pass ∷ passes) once = (apart passes none, distinct_from_tally passes (λ n. let all = once n in omega arith))
  where
    none : tally pass.brick.0 (pass_numbers passes) ≡ 0
    none = let all = once pass.brick.0 in let same = weight_same pass.brick.0 in omega arith

    apart : (others : List Pass) → tally pass.brick.0 (pass_numbers others) ≡ 0 → All (λ (other : Pass). pass.brick.0 ≢ other.brick.0) others
    apart [] zero_is = All-nil (λ (other : Pass). pass.brick.0 ≢ other.brick.0)
    apart (other ∷ others) zero_is = All-cons (λ (that : Pass). pass.brick.0 ≢ that.brick.0) other others differs (apart others (omega arith))
      where
        differs : pass.brick.0 ≢ other.brick.0
        differs same =
            let one : weight (other.brick.0 == pass.brick.0) ≡ 1 = ap (λ m. weight (m == pass.brick.0)) (sym same) ∙ weight_same pass.brick.0 in
            omega arith
