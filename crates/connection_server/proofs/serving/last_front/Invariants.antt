use Rattle.std.proofs.Common.{◌≡◌, length}
use Rattle.shepherd.specs.Standing.{last_front}
use Rattle.connection_server.proofs.serving.last_front.Given as goal

abbrev pub invariant-loop-rest : goal.invariant-loop-rest
invariant-loop-rest l = last_front (record { 0 = 0 }) l.fn.items ≡ last_front l.front l.rest

abbrev pub decreases-loop-rest : goal.decreases-loop-rest
decreases-loop-rest l = length l.rest
