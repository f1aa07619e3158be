use Rattle.std.proofs.Common.{refl, sym}
use Rattle.seat_lines.proofs.Keeping.{items_by_steps, outs_by_steps}
use Rattle.seat_lines.specs.Lines.{moves, world_of}
use Rattle.shepherd.specs.Shepherds.{turn as turn_of}
use Rattle.scenario_engine.specs.Connections.{step_leaves}
use Rattle.scenario_engine.proofs.Followed.{drew-next, follows-by, gone-is, opened-by, others-bring-none, own-line-brings, stays-on, whose-is}
use Rattle.scenario_engine.proofs.StepReports.{line-reported}
use Rattle.scenario_engine.proofs.serving.connections_go_by_their_lines.Goals as goal

pub returns-clause-opens : goal.returns-clause-opens
returns-clause-opens c = opened-by

pub returns-clause-follows : goal.returns-clause-follows
returns-clause-follows c = λ turns turn it r q none there again conn leaves. follows-by turns turn it r q none there (again, conn) leaves

pub returns-clause-stays : goal.returns-clause-stays
returns-clause-stays c = stays-on

pub returns-clause-course : goal.returns-clause-course
returns-clause-course c = λ s. refl

pub returns-clause-whose : goal.returns-clause-whose
returns-clause-whose c = whose-is

pub returns-clause-gone : goal.returns-clause-gone
returns-clause-gone c = gone-is

pub returns-clause-serial : goal.returns-clause-serial
returns-clause-serial c = λ d before behind x it is kind.
    let w = world_of d.step.site it.bricks in
    let after = (step_leaves d.step it.seat it.bricks).world in
    c.drawn_numbers_come_next.ensures.serial w after before behind x (drew-next (moves (turn_of it.seat.connection)) w after d.drawn before behind x it.drew is) kind

pub returns-clause-word : goal.returns-clause-word
returns-clause-word c = λ d before behind x small it is kind.
    let w = world_of d.step.site it.bricks in
    let after = (step_leaves d.step it.seat it.bricks).world in
    c.drawn_numbers_come_next.ensures.word w after before behind x small (drew-next (moves (turn_of it.seat.connection)) w after d.drawn before behind x it.drew is) kind

pub returns-clause-own : goal.returns-clause-own
returns-clause-own c = own-line-brings

pub returns-clause-others : goal.returns-clause-others
returns-clause-others c = others-bring-none

pub returns-clause-yields : goal.returns-clause-yields
returns-clause-yields c = λ s t line replies text is. (
  sym (outs_by_steps s t line replies text is),
  sym (items_by_steps s t line replies text is),
  line-reported s t line replies text is,
)
