use Rattle.std.proofs.Common.{◌≡◌, length}
use Rattle.ssm_stub.specs.Writes.{mark_in}
use Rattle.ssm_stub.proofs.write_call.mark_in.Given as goal

abbrev pub invariant-loop-rest : goal.invariant-loop-rest
invariant-loop-rest l = mark_in l.fn.asks l.brick ≡ mark_in l.rest l.brick

abbrev pub decreases-loop-rest : goal.decreases-loop-rest
decreases-loop-rest l = length l.rest
