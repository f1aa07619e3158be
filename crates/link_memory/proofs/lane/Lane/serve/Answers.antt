use Rattle.std.proofs.Common.{refl, nat_lt}
use Rattle.link_memory.specs.Lane.{LaneValue, replies_at}
use Rattle.link_memory.proofs.Replies.{kept_within, served_by}
use Rattle.link_memory.proofs.lane.Lane.serve.Goals as goal

pub invariant_of-self-2 : goal.invariant_of-self-2
invariant_of-self-2 c = rw (c.keep.ensures.queue, c.keep.ensures.made, c.reserve.ensures.queue, c.reserve.ensures.made) (kept_within (nat_lt 0 c.self.inside.to_lose) c.self.inside.made.items c.in_ok-reply.reply c.self.inside.queue.items c.self.invariant)

pub returns-clause-ok : goal.returns-clause-ok
returns-clause-ok c =
    let lane : LaneValue = record { brick = c.self.inside.brick; to_drop = c.self.inside.to_drop; to_lose = c.self.inside.to_lose; made = c.self.inside.made.items; queue = replies_at c.self.inside.made.items c.self.inside.queue.items; silences = c.self.inside.silences } in
    let r = c.in_ok-reply.reply in
    let done = served_by lane c.args.request.now r c.self.inside.queue.items refl c.self.invariant c.in_ok-reply.ensures.reply in
    rw (← c.self.view_is, c.in_ok-reply.ensures.new, c.keep.ensures.to_lose, c.keep.ensures.queue, c.keep.ensures.made, c.reserve.ensures.queue, c.reserve.ensures.made) done
