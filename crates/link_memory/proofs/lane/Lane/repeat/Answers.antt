use Rattle.std.proofs.Common.{◌≤◌, sym, subst, refl, length}
use Rattle.link_memory.specs.Lane.{LaneValue, replies_at}
use Rattle.link_memory.proofs.Replies.{repeated_by}
use Rattle.link_memory.proofs.lane.Lane.repeat.Goals as goal

pub returns-clause-ok : goal.returns-clause-ok
returns-clause-ok c =
    let lane : LaneValue = record { brick = c.self.inside.brick; to_drop = c.self.inside.to_drop; to_lose = c.self.inside.to_lose; made = c.self.inside.made.items; queue = replies_at c.self.inside.made.items c.self.inside.queue.items; silences = c.self.inside.silences } in
    let made : c.args.number ≤ length lane.made = (let P : LaneValue → Type 0 = λ l. c.args.number ≤ length l.made in subst P (sym c.self.view_is) c.requires.made) in
    rw (← c.self.view_is, c.in_ok-push_back.ensures.items) (repeated_by lane c.args.number c.self.inside.queue.items c.requires.some made refl)
