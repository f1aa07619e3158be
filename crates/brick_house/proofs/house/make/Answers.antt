use Rattle.std.proofs.Common.{arith}
use Rattle.std.proofs.lemmas.List.{length_push}
use Rattle.brick_house.proofs.Houses.{made_more}
use Rattle.brick_house.proofs.house.make.Goals as goal

pub loop-at-preserved : goal.loop-at-preserved
loop-at-preserved c =
    let before = c.loop-at.invariant in
    let locks = c.in_ok-push-in-Ok.ensures.items in
    let more = length_push c.loop-at.locks.items c.in-Ok.lock in
    rw (locks, c.in_ok-push-in-Ok-2.ensures.items)
    (omega arith, made_more c.args.incarnation c.args.links c.loop-at.at c.loop-at.locks.items c.loop-at.seats.items c.in-Ok.lock c.in-Ok.seat c.new-inner.result before.0 before.1 c.new-inner.ensures.value c.in-Ok.ensures.seat)
