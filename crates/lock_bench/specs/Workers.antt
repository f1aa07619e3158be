-- The workers of a bench, and their seats.
use Rattle.std.specs.Prelude.{◌≡◌, ℕ, false}
use Rattle.turn_lock.specs.Seats.{LockValue, SeatValue}
use Rattle.lock_bench.specs.declared.threads.Worker.{Worker}

-- A seat is of a lock, and the value is not out with it.
pub record IsSeatOf (lock : LockValue) (seat : SeatValue ℕ) : Type 0 where
  pub same : seat.lock ≡ lock.id
  pub home : seat.holds ≡ false

-- A worker has such a seat.
abbrev pub IsWorkerOf : LockValue → Worker → Type 0
IsWorkerOf lock worker = IsSeatOf lock worker.seat
