-- Workers that are added.
use Rattle.std.proofs.Common.{◌≡◌, List, [], ◌∷◌, ◌++◌, All, sym, subst}
use Rattle.std.proofs.lemmas.List.Elements.{All-nil, All-push}
use Rattle.turn_lock.specs.Seats.{LockValue}
use Rattle.lock_bench.specs.Workers.{IsSeatOf, IsWorkerOf}
use Rattle.lock_bench.specs.declared.threads.Worker.{Worker}

pub none_work : (lock : LockValue) (workers : List Worker) → workers ≡ [] → All (IsWorkerOf lock) workers
none_work lock workers none = subst (All (IsWorkerOf lock)) (sym none) (All-nil (IsWorkerOf lock))

pub one_more : (lock : LockValue) (old new : List Worker) (worker : Worker) → new ≡ old ++ worker ∷ [] → All (IsWorkerOf lock) old → IsSeatOf lock worker.seat
    → All (IsWorkerOf lock) new
one_more lock old new worker added all is = subst (All (IsWorkerOf lock)) (sym added) (All-push (IsWorkerOf lock) old worker all is)
