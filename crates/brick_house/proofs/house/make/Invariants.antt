use Rattle.std.proofs.Common.{◌≡◌, length, map}
use Rattle.brick_house.specs.Houses.{id_of, seats_from}
use Rattle.brick_house.proofs.house.make.Given as goal

abbrev pub invariant-loop-at : goal.invariant-loop-at
invariant-loop-at l =
    (length l.locks.items ≡ l.at) × (l.seats.items ≡ seats_from l.incarnation l.links 1 (map id_of l.locks.items))
