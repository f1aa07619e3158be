use Rattle.std.proofs.Common.{◌≡◌, ◌∙◌, ap, sym, Ok}
use Rattle.session_lanes.specs.Lanes.{LanesState}
use Rattle.session_lanes.proofs.Going.{turns_end}
use Rattle.session_lanes.proofs.lanes.Lanes.take_turns.Goals as goal

pub returns-then-not-branch : goal.returns-then-not-branch
returns-then-not-branch c =
    let st : LanesState = c.loop-left.self in
    let same : c.turn.new.self ≡ st = c.in_ok-turn.ensures.ended (ap Ok c.if-not-branch.true) in
    same ∙ (sym (turns_end c.loop-left.left st c.args.call (sym c.in_ok-turn.ensures.turn ∙ same)) ∙ c.loop-left.invariant)
