use Rattle.std.proofs.Common.{◌≡◌, ◌+◌, All}
use Rattle.lock_bench.specs.Workers.{IsSeatOf, IsWorkerOf}
use Rattle.lock_bench.proofs.threads.workers.Given as goal

abbrev pub invariant-loop-cut : goal.invariant-loop-cut
invariant-loop-cut l =
    IsSeatOf l.lock l.seat × (l.seat.parts + l.cut ≡ l.threads + 1) × All (IsWorkerOf l.lock) l.workers.items
