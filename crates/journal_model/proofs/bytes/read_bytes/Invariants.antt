use Rattle.std.proofs.Common.{◌≡◌, ◌+◌, length, sum_by}
use Rattle.journal_model.specs.declared.entry.Mark.{Mark}
use Rattle.journal_model.specs.Limits.{value_bytes}
use Rattle.journal_model.proofs.bytes.read_bytes.Given as goal

abbrev pub invariant-loop-rest : goal.invariant-loop-rest
invariant-loop-rest l = l.bytes + sum_by (λ (m : Mark). value_bytes m.value) l.rest ≡ sum_by (λ (m : Mark). value_bytes m.value) l.marks

abbrev pub decreases-loop-rest : goal.decreases-loop-rest
decreases-loop-rest l = length l.rest
