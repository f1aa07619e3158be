use Rattle.std.proofs.Common.{◌≡◌}
use Rattle.client_sockets.proofs.client_sink.ClientSink.put.Given as goal

abbrev pub invariant-loop : goal.invariant-loop
invariant-loop g l = l.self ≡ l.fn.self
