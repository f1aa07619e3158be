use Rattle.std.proofs.Common.{arith, ◌≡◌, ◌∙◌, ◌+◌, ◌-◌, ap, sym, length, map}
use Rattle.std.proofs.lemmas.List.{length-map}
use Rattle.std.proofs.lemmas.Result.{IfOk-weaker}
use Rattle.brick_house.specs.Houses.{HouseValue, HouseSeatsValue, id_of, lock_of, parts_of, seat_of, IsReplySeen, IsReplyOf}
use Rattle.brick_house.proofs.Houses.{seat_here, is_home, reply_here}
use Rattle.brick_house.proofs.house.BrickHouse.ask.Goals as goal

pub ask_in_turn-requires-clause-seat : goal.ask_in_turn-requires-clause-seat
ask_in_turn-requires-clause-seat g c =
    let seats = c.seats.inside.seats.items in
    let locks = c.self.inside.locks.items in
    let at = c.args.to.0 - 1 in
    let same : map lock_of seats ≡ map id_of locks = ap (λ (v : HouseSeatsValue). v.house.locks) c.seats.view_is ∙ (ap (λ (h : HouseValue). h.locks) c.requires.house ∙ sym (ap (λ (h : HouseValue). h.locks) c.self.view_is)) in
    let many : length (map id_of locks) ≡ length c.args.self.now.locks = ap (λ (h : HouseValue). length h.locks) c.self.view_is in
    let long = length-map locks id_of in
    ap lock_of (seat_here c.seats.inside.incarnation (parts_of seats) at locks seats c.index.result.now c.index_mut.result.now c.seats.invariant same (omega (arith, c.requires.few, c.requires.some)) c.index.ensures c.index_mut.ensures.value)

pub ask_in_turn-requires-clause-home : goal.ask_in_turn-requires-clause-home
ask_in_turn-requires-clause-home g c =
    let seats = c.seats.inside.seats.items in
    let locks = c.self.inside.locks.items in
    let at = c.args.to.0 - 1 in
    let same : map lock_of seats ≡ map id_of locks = ap (λ (v : HouseSeatsValue). v.house.locks) c.seats.view_is ∙ (ap (λ (h : HouseValue). h.locks) c.requires.house ∙ sym (ap (λ (h : HouseValue). h.locks) c.self.view_is)) in
    let many : length (map id_of locks) ≡ length c.args.self.now.locks = ap (λ (h : HouseValue). length h.locks) c.self.view_is in
    let long = length-map locks id_of in
    is_home c.seats.inside.incarnation (parts_of seats) (1 + at) c.index.result.now.id c.index_mut.result.now
    (seat_here c.seats.inside.incarnation (parts_of seats) at locks seats c.index.result.now c.index_mut.result.now c.seats.invariant same (omega (arith, c.requires.few, c.requires.some)) c.index.ensures c.index_mut.ensures.value)

pub returns-clause-reply : goal.returns-clause-reply
returns-clause-reply g c =
    let seats = c.seats.inside.seats.items in
    let locks = c.self.inside.locks.items in
    let at = c.args.to.0 - 1 in
    let s = c.index_mut.result.now in
    let l = c.index.result.now in
    let same : map lock_of seats ≡ map id_of locks = ap (λ (v : HouseSeatsValue). v.house.locks) c.seats.view_is ∙ (ap (λ (h : HouseValue). h.locks) c.requires.house ∙ sym (ap (λ (h : HouseValue). h.locks) c.self.view_is)) in
    let first : c.seats.inside.incarnation ≡ c.args.self.now.incarnation = ap (λ (v : HouseSeatsValue). v.house.incarnation) c.seats.view_is ∙ ap (λ (h : HouseValue). h.incarnation) c.requires.house in
    let many : length (map id_of locks) ≡ length c.args.self.now.locks = ap (λ (h : HouseValue). length h.locks) c.self.view_is in
    let long = length-map locks id_of in
    let seat : s ≡ seat_of c.args.self.now.incarnation (parts_of seats) (1 + at) l.id =
    seat_here c.seats.inside.incarnation (parts_of seats) at locks seats l s c.seats.invariant same (omega (arith, c.requires.few, c.requires.some)) c.index.ensures c.index_mut.ensures.value
    ∙ ap (λ n. seat_of n (parts_of seats) (1 + at) l.id) first in
    IfOk-weaker c.ask_in_turn.result (λ answer. IsReplySeen s.seen c.args.request.now answer) (λ answer. IsReplyOf c.args.self.now c.args.to c.args.request.now answer)
    (λ answer h. reply_here c.args.self.now c.args.to c.args.request.now answer (parts_of seats) (1 + at) l.id s seat (omega (arith, c.requires.some)) h)
    c.ask_in_turn.ensures.reply
