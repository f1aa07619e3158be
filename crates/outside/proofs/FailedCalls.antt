-- The calls of a keeper in memory that failed, one call after the other.
use Rattle.std.proofs.Common.{◌≡◌, ℕ, ◌+◌, ◌-◌, ◌<◌, ◌^◌, true, false, cond, nat_lt, List, [], ◌∷◌, ◌++◌, filter, refl, sym, ap, ◌∙◌, arith}
use Rattle.std.specs.List.{range_with_len}
use Rattle.std.proofs.lemmas.List.Elements.{filter-append}
use Rattle.std.proofs.lemmas.List.FromFn.{map-range_with_len_more}
use Rattle.std.proofs.lemmas.List.{map-id, append-nil}
use Rattle.std.proofs.lemmas.Bool.Decides.{nat_tests}
use Rattle.crash_base.specs.declared.rows.RowWrite.{RowWrite}
use Rattle.outside.specs.declared.keeper.KeeperFault.TheVariants.{Failed}
use Rattle.outside.specs.Faults.{counted}
use Rattle.outside.specs.Memory.{fails}
use Rattle.outside.specs.MapKeeper.{MapKeeperState, failed_calls, call_fails, after_load, after_refusal}

pub failed_calls-none : (failing : List ℕ) → failed_calls failing 0 ≡ []
unfolding failed_calls
failed_calls-none failing = refl

numbers_more : (n : ℕ) → range_with_len 1 (n + 1) ≡ range_with_len 1 n ++ (n + 1) ∷ []
numbers_more n =
    sym (map-id (range_with_len 1 (n + 1)))
    ∙ map-range_with_len_more (λ x. x) 1 n (n + 1) (omega arith)
    ∙ ap (λ xs. xs ++ (n + 1) ∷ []) (map-id (range_with_len 1 n))

pub failed_calls-more : (failing : List ℕ) (n : ℕ) → failed_calls failing (n + 1) ≡ failed_calls failing n ++ cond (fails failing (n + 1)) ((n + 1) ∷ []) []
unfolding failed_calls
failed_calls-more failing n = ap (filter (fails failing)) (numbers_more n) ∙ filter-append (fails failing) (range_with_len 1 n) ((n + 1) ∷ [])

-- a keeper of these fields
abbrev keeper_of : List RowWrite → List ℕ → ℕ → ℕ → MapKeeperState
keeper_of rows failing calls faults = record { told = record { rows = rows; calls = calls; failed = failed_calls failing calls }; failing = failing; faults = faults }

number_of : (n : ℕ) → n < 2 ^ 64 - 1 → counted n ≡ n + 1
number_of n few = grind arith

-- a call that fails was counted
pub counted_failure : (rows : List RowWrite) (failing : List ℕ) (calls faults : ℕ) → calls < 2 ^ 64 - 1 → fails failing (calls + 1) ≡ true
    → keeper_of rows failing (calls + 1) (counted faults) ≡ (cond (call_fails (keeper_of rows failing calls faults)) (after_refusal Failed (keeper_of rows failing calls faults)) (after_load (keeper_of rows failing calls faults)))
counted_failure rows failing calls faults few listed =
    let number : nat_lt calls (2 ^ 64 - 1) ≡ true = grind (arith, nat_tests) in
    let more : failed_calls failing (calls + 1) ≡ failed_calls failing calls ++ (calls + 1) ∷ [] =
    failed_calls-more failing calls ∙ ap (λ test. failed_calls failing calls ++ cond test ((calls + 1) ∷ []) []) listed in
    rw (number, listed, number_of calls few, more) refl

-- a call that does not fail was counted
pub counted_success : (rows : List RowWrite) (failing : List ℕ) (calls faults : ℕ) → calls < 2 ^ 64 - 1 → fails failing (calls + 1) ≡ false
    → keeper_of rows failing (calls + 1) faults ≡ (cond (call_fails (keeper_of rows failing calls faults)) (after_refusal Failed (keeper_of rows failing calls faults)) (after_load (keeper_of rows failing calls faults)))
counted_success rows failing calls faults few unlisted =
    let number : nat_lt calls (2 ^ 64 - 1) ≡ true = grind (arith, nat_tests) in
    let more : failed_calls failing (calls + 1) ≡ failed_calls failing calls =
    failed_calls-more failing calls ∙ ap (λ test. failed_calls failing calls ++ cond test ((calls + 1) ∷ []) []) unlisted ∙ append-nil (failed_calls failing calls) in
    rw (number, unlisted, number_of calls few, more) refl
