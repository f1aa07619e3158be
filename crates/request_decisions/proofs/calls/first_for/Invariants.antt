use Rattle.std.proofs.Common.{◌≡◌, length}
use Rattle.request_decisions.specs.Calls.{numbers_for}
use Rattle.request_decisions.proofs.calls.first_for.Given as goal

abbrev pub invariant-loop-rest : goal.invariant-loop-rest
invariant-loop-rest l = numbers_for l.kind l.rest ≡ numbers_for l.kind l.drawn

abbrev pub decreases-loop-rest : goal.decreases-loop-rest
decreases-loop-rest l = length l.rest
