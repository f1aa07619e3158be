use Rattle.session_lanes.specs.Lanes.{LanesState}
use Rattle.session_lanes.proofs.Going.{heard_none, heard_first}
use Rattle.session_lanes.proofs.lanes.Lanes.listen_at.Goals as goal

pub returns-in_default-clause-after : goal.returns-in_default-clause-after
returns-in_default-clause-after c =
    let st : LanesState = record { world = c.self.inside.world; windows = c.self.inside.windows; lanes = c.self.inside.lanes.items; counts = c.self.inside.counts } in
    rw (← c.self.view_is, c.in_ok-hush.ensures.after, c.number_at-brick.ensures.number) (λ lane brick there number. heard_none st c.args.call c.args.place brick c.index_mut.result.now c.next_reply.new.self lane c.in_default.ensures.0 c.in_default.ensures.1 c.index_mut.ensures.value number there)

pub returns-clause-after : goal.returns-clause-after
returns-clause-after c =
    let st : LanesState = record { world = c.self.inside.world; windows = c.self.inside.windows; lanes = c.self.inside.lanes.items; counts = c.self.inside.counts } in
    rw (← c.self.view_is, c.in_ok-hear.ensures.after) (λ lane brick there number. heard_first st c.args.call c.args.place c.in-Some.packet brick c.index_mut.result.now c.next_reply.new.self lane c.in-Some.ensures.0 c.in-Some.ensures.1 c.index_mut.ensures.value number there)
