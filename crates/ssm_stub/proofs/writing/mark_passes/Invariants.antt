use Rattle.std.proofs.Common.{◌≡◌, ◌++◌, length, take, drop}
use Rattle.ssm_stub.specs.Writes.{heard_passes}
use Rattle.ssm_stub.proofs.writing.mark_passes.Given as goal

abbrev pub invariant-loop-at : goal.invariant-loop-at
invariant-loop-at l = record {
  as_many : length l.passes ≡ length l.initial.passes;
  so_far : l.passes ≡ heard_passes l.write (take l.at l.initial.passes) ++ drop l.at l.initial.passes;
}
