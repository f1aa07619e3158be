use Rattle.std.proofs.Common.{Bool, sym, subst, ◌∙◌}
use Rattle.scenario_engine.specs.Engine.{target_in}
use Rattle.scenario_engine.specs.Telling.{Reaches}
use Rattle.scenario_engine.proofs.Stepping.{reached, reached_run}
use Rattle.scenario_engine.proofs.engine.Engine.reach.Goals as goal
use Rattle.scenario_engine.proofs.engine.Engine.reach.Goals.{else-event-via-then-event+else-is_heading, else-event-via-else-event}

pub returns-else-event-clause-reaches : goal.returns-else-event-clause-reaches
returns-else-event-clause-reaches g c =
    let v = c.args.self.now in
    let P : Bool → Type 0 = λ event. Reaches v.state event (target_in v.state) v.keeper v.keeper in
    elim c.else-event.branch [
      | else-event-via-then-event+else-is_heading w ↦ reached_run v.state c.args.event v.keeper (sym w.is_heading.ensures ∙ w.if-is_heading.false)
      | else-event-via-else-event w ↦ subst P (sym w.if-event.false) (reached v.state v.keeper)
    ]
