use Rattle.std.proofs.Common.{Some, ℕ, Bool, sym, subst}
use Rattle.std.proofs.lemmas.Result.{IfOk-weaker}
use Rattle.container_core.specs.Container.{ContainerValue}
use Rattle.scenario_text.specs.Answer.{answer_of}
use Rattle.scenario_text.specs.declared.answer.LineAnswer.{LineAnswer}
use Rattle.session_steps.specs.Lent.{put_back}
use Rattle.session_steps.specs.Sessions.{SessionsState}
use Rattle.seat_lines.specs.Handing.{HasDone, HasMadeStep}
use Rattle.seat_lines.specs.Runs.{going}
use Rattle.seat_lines.specs.Site.{SiteState, site_in}
use Rattle.seat_lines.proofs.RunSteps.{step_done}
use Rattle.seat_lines.proofs.seats.Seats.go_over.Goals as goal

pub returns-else-to_rest-clause-answer : goal.returns-else-to_rest-clause-answer
returns-else-to_rest-clause-answer g c =
    let n : ℕ = c.args.number in
    let old : ContainerValue = c.args.container.now in
    let sessions : SessionsState = put_back c.args.lent.now (Some c.args.lending.lanes) c.args.lending.serial in
    let after : SiteState = site_in c.step.new.container (put_back c.args.lent.now (Some c.step.result.0.lanes) c.step.result.0.serial) c.step.new.self in
    IfOk-weaker c.step.result.1
    (λ (a : LineAnswer). HasMadeStep n old sessions c.args.self.now (answer_of a after) c.step.new.container)
    (λ (a : LineAnswer). HasDone (going c.args.to_rest n) old sessions c.args.self.now (answer_of a after) c.step.new.container)
    (λ a made. subst (λ (b : Bool). HasDone (going b n) old sessions c.args.self.now (answer_of a after) c.step.new.container) (sym c.if-to_rest.false) (step_done n old sessions c.args.self.now (answer_of a after) c.step.new.container made))
    c.step.ensures.step
