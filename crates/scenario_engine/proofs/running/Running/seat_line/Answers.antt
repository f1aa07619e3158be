use Rattle.std.proofs.Common.{MatchResult, subst}
use Rattle.std.specs.Prelude.{is_some}
use Rattle.container_core.specs.Container.{ContainerValue}
use Rattle.scenario_text.specs.Answer.{answer_of}
use Rattle.scenario_engine.specs.KeeperCalls.{seen}
use Rattle.scenario_engine.specs.State.{RunningValue}
use Rattle.scenario_engine.specs.Telling.{AnswersSeat, EndsSeat}
use Rattle.scenario_engine.proofs.Going.{runs_after}
use Rattle.scenario_engine.proofs.Handing.{site_ended}
use Rattle.scenario_engine.proofs.Rebooting.{run_of}
use Rattle.scenario_engine.proofs.running.Running.seat_line.Goals as goal

pub invariant_of-running : goal.invariant_of-running
invariant_of-running g c =
    runs_after c.self.inside.container c.site_line-sessions.new.container c.self.inside.callers c.self.inside.seats c.site_line-sessions.new.seats _ c.site_line-sessions.ensures.grown c.site_line-sessions.ensures.goes c.self.invariant

pub returns-clause-answer : goal.returns-clause-answer
returns-clause-answer g c =
    let k : ContainerValue = c.self.inside.container in
    let n : ContainerValue = c.site_line-sessions.new.container in
    let part = c.site_line-sessions.result.1 in
    let after = c.site_line-sessions.result.0 in
    let site = is_some c.self.inside.router in
    let P : RunningValue → Type 0 = λ v. MatchResult part
    (λ a. AnswersSeat v.running c.args.line (answer_of a (run_of n c.self.inside.callers after c.site_line-sessions.new.seats site)) v.keeper (seen n.told n.faults))
    (λ e. EndsSeat v.running c.args.line v.keeper (seen n.told n.faults)) in
    subst P c.self.view_is (site_ended part k n c.self.inside.callers c.self.inside.sessions after c.self.inside.seats c.site_line-sessions.new.seats site c.args.line c.site_line-sessions.ensures.answer)
