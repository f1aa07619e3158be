use Rattle.lock_bench.specs.Workers.{IsWorkerOf}
use Rattle.lock_bench.proofs.threads.hold_often.Given as goal

abbrev pub invariant-loop : goal.invariant-loop
invariant-loop g l = IsWorkerOf l.lock l.worker
