-- Sums of few small terms.
use Rattle.std.proofs.Common.{ℕ, ◌+◌, ◌*◌, ◌≤◌, List, length, sum_by, All, mul-le-mul_right, arith}
use Rattle.std.proofs.lemmas.List.Sums.{sum_by-le}
use Rattle.crash_base.specs.declared.rows.RowWrite.{RowWrite}
use Rattle.crash_base.specs.declared.rows.TheConstants.{MAX_ROW_BYTES}
use Rattle.journal_model.specs.declared.entry.Mark.{Mark}
use Rattle.journal_model.specs.Limits.{value_bytes, call_bytes}
use Rattle.call_ticket.specs.declared.limits.TheConstants.{MAX_MARKS, MAX_WRITES}
use Rattle.call_ticket.specs.Within.{IsShortMark, IsShortWrite}

-- the whole sum
small_sum : {X : Type 0} (f : X → ℕ) (xs : List X) (n m : ℕ) → length xs ≤ n → All (λ x. f x ≤ m) xs → sum_by f xs ≤ n * m
small_sum f xs n m few small = omega (arith, sum_by-le f m xs small, mul-le-mul_right m few)

pub small_call : (marks : List Mark) (writes : List RowWrite) → length marks ≤ MAX_MARKS → All IsShortMark marks → length writes ≤ MAX_WRITES → All IsShortWrite writes → call_bytes marks writes ≤ (MAX_MARKS + MAX_WRITES) * MAX_ROW_BYTES
small_call marks writes reads values puts rows =
    let read = small_sum (λ (m : Mark). value_bytes m.value) marks MAX_MARKS MAX_ROW_BYTES reads values in
    let written = small_sum (λ (w : RowWrite). length w.bytes) writes MAX_WRITES MAX_ROW_BYTES puts rows in
    omega (arith, read, written)
