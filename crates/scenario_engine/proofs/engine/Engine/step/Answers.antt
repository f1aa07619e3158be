use Rattle.std.proofs.Common.{Bool, subst}
use Rattle.scenario_engine.specs.Engine.{target_in}
use Rattle.scenario_engine.specs.Telling.{Reaches, FailsToReach}
use Rattle.scenario_engine.proofs.Stepping.{line_done, ends_before}
use Rattle.scenario_engine.proofs.engine.Engine.step.Goals as goal

pub returns-in-Ok-clause-answer : goal.returns-in-Ok-clause-answer
returns-in-Ok-clause-answer g c =
    let v = c.args.self.now in
    let w = c.reach.new.self in
    let P : Bool → Type 0 = λ event. Reaches v.state event (target_in w.state) v.keeper w.keeper in
    line_done c.line_on.result v w c.line_on.new.self c.args.line (subst P c.is_event.ensures c.in-Ok.ensures.reaches) c.line_on.ensures.answer

pub returns-in-Err-clause-answer : goal.returns-in-Err-clause-answer
returns-in-Err-clause-answer g c =
    let v = c.args.self.now in
    let w = c.reach.new.self in
    let P : Bool → Type 0 = λ event. FailsToReach c.in-Err.failure v.state event v.keeper w.keeper in
    ends_before c.in-Err.failure v.state c.args.line v.keeper w.keeper (subst P c.is_event.ensures c.in-Err.ensures.reaches)
