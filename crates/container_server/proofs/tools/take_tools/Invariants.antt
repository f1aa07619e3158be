use Rattle.std.proofs.Common.{◌≡◌, vec_len}
use Rattle.container_server.proofs.tools.take_tools.Given as goal

abbrev pub invariant-loop-number : goal.invariant-loop-number
invariant-loop-number g l = vec_len l.tools ≡ l.number
