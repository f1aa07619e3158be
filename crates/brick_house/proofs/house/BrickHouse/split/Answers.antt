use Rattle.std.proofs.Common.{arith, ◌≡◌, ◌∙◌, ◌-◌, ap, sym, subst, map, List}
use Rattle.turn_lock.specs.Seats.{LockValue}
use Rattle.brick_house.specs.Houses.{HouseValue, HouseSeatsValue, id_of, lock_of, parts_of, AreSplit}
use Rattle.brick_house.proofs.Houses.{sits, seats_value, some_seats, may_be_split, left_are, cut_are}
use Rattle.brick_house.proofs.house.BrickHouse.split.Goals as goal

pub split_each-requires-clause-seats : goal.split_each-requires-clause-seats
split_each-requires-clause-seats c =
    let seats = c.seats.inside.seats.items in
    let locks = c.self.inside.locks.items in
    let same : map lock_of seats ≡ map id_of locks = ap (λ (v : HouseSeatsValue). v.house.locks) c.seats.view_is ∙ (ap (λ (h : HouseValue). h.locks) c.requires.house ∙ sym (ap (λ (h : HouseValue). h.locks) c.self.view_is)) in
    let parts : parts_of seats ≡ c.args.seats.now.parts = ap (λ (v : HouseSeatsValue). v.parts) c.seats.view_is in
    (let P : List LockValue → Type 0 = λ ls. AreSplit (map id_of ls) seats in
    subst P (sym c.as_slice.ensures.value) (may_be_split c.seats.inside.incarnation seats locks c.seats.invariant same (omega (arith, c.requires.parts))))

pub invariant_of-result : goal.invariant_of-result
invariant_of-result c =
    let seats = c.seats.inside.seats.items in
    let parts : parts_of seats ≡ c.args.seats.now.parts = ap (λ (v : HouseSeatsValue). v.parts) c.seats.view_is in
    sits c.seats.inside.incarnation 1 (map lock_of seats) c.split_each.new.cut.items
    (cut_are c.seats.inside.incarnation seats c.in_ok-cut.cut.items c.split_each.new.cut.items c.seats.invariant c.in_ok-cut.ensures.items c.split_each.ensures.cut)
    (some_seats seats (omega (arith, c.requires.parts)))

pub invariant_of-seats : goal.invariant_of-seats
invariant_of-seats c =
    let seats = c.seats.inside.seats.items in
    let parts : parts_of seats ≡ c.args.seats.now.parts = ap (λ (v : HouseSeatsValue). v.parts) c.seats.view_is in
    sits c.seats.inside.incarnation (parts_of seats - 1) (map lock_of seats) c.split_each.new.seats.items
    (left_are c.seats.inside.incarnation seats c.split_each.new.seats.items c.seats.invariant c.split_each.ensures.left)
    (some_seats seats (omega (arith, c.requires.parts)))

pub returns-clause-cut : goal.returns-clause-cut
returns-clause-cut c =
    let seats = c.seats.inside.seats.items in
    let parts : parts_of seats ≡ c.args.seats.now.parts = ap (λ (v : HouseSeatsValue). v.parts) c.seats.view_is in
    seats_value c.seats.inside.incarnation 1 (map lock_of seats) c.split_each.new.cut.items
    (cut_are c.seats.inside.incarnation seats c.in_ok-cut.cut.items c.split_each.new.cut.items c.seats.invariant c.in_ok-cut.ensures.items c.split_each.ensures.cut)
    (some_seats seats (omega (arith, c.requires.parts)))
    ∙ ap (λ (v : HouseSeatsValue). record v { parts = 1 }) c.seats.view_is

pub returns-clause-left : goal.returns-clause-left
returns-clause-left c =
    let seats = c.seats.inside.seats.items in
    let parts : parts_of seats ≡ c.args.seats.now.parts = ap (λ (v : HouseSeatsValue). v.parts) c.seats.view_is in
    seats_value c.seats.inside.incarnation (parts_of seats - 1) (map lock_of seats) c.split_each.new.seats.items
    (left_are c.seats.inside.incarnation seats c.split_each.new.seats.items c.seats.invariant c.split_each.ensures.left)
    (some_seats seats (omega (arith, c.requires.parts)))
    ∙ ap (λ (v : HouseSeatsValue). record v { parts = v.parts - 1 }) c.seats.view_is
