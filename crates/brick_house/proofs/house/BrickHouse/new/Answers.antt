use Rattle.std.proofs.Common.{arith, ◌<◌, length, map}
use Rattle.std.proofs.lemmas.List.{length-map}
use Rattle.brick_house.specs.Houses.{id_of}
use Rattle.brick_house.proofs.Houses.{sits, seats_value}
use Rattle.brick_house.proofs.house.BrickHouse.new.Goals as goal

pub invariant_of-result-2 : goal.invariant_of-result-2
invariant_of-result-2 c =
    let locks = c.in_ok-locks.locks.items in
    let some : 0 < length (map id_of locks) = (let many = length-map locks id_of in omega (arith, c.in_ok-locks.ensures.locks, c.requires.some)) in
    sits c.args.incarnation c.args.links (map id_of locks) c.in_ok-locks.seats.items c.in_ok-locks.ensures.seats some

pub returns-clause-seats : goal.returns-clause-seats
returns-clause-seats c =
    let locks = c.in_ok-locks.locks.items in
    let some : 0 < length (map id_of locks) = (let many = length-map locks id_of in omega (arith, c.in_ok-locks.ensures.locks, c.requires.some)) in
    seats_value c.args.incarnation c.args.links (map id_of locks) c.in_ok-locks.seats.items c.in_ok-locks.ensures.seats some
