use Rattle.std.proofs.Common.{◌≡◌}
use Rattle.thread_tests.proofs.senders.put_all.Given as goal

abbrev pub invariant-loop : goal.invariant-loop
invariant-loop g l = l.pass.queue ≡ l.queue
