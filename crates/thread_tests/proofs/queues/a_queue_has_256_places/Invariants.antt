use Rattle.std.proofs.Common.{◌≡◌}
use Rattle.thread_tests.proofs.queues.a_queue_has_256_places.Given as goal

abbrev pub invariant-loop-next : goal.invariant-loop-next
invariant-loop-next g l = l.pass.queue ≡ l.queue-inside.inner.table.shared.table_id

abbrev pub invariant-loop-next-2 : goal.invariant-loop-next-2
invariant-loop-next-2 g l = l.pass.queue ≡ l.queue-inside.inner.table.shared.table_id
