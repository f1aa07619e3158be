use Rattle.std.proofs.Common.{Some, ℕ, refl, string_bytes}
use Rattle.std.proofs.lemmas.Result.{IfOk-at_ok}
use Rattle.container_core.specs.Container.{ContainerValue}
use Rattle.scenario_text.specs.Answer.{answer_of}
use Rattle.scenario_text.specs.declared.answer.LineAnswer.{LineAnswer}
use Rattle.session_steps.specs.Lent.{put_back}
use Rattle.session_steps.specs.Sessions.{SessionsState}
use Rattle.seat_lines.specs.Handing.{HasMadeStep}
use Rattle.seat_lines.specs.Site.{site_in}
use Rattle.seat_lines.proofs.Placing.{steps_done}
use Rattle.seat_lines.proofs.RunSteps.{made_breaks, runs_once}
use Rattle.seat_lines.proofs.seats.Seats.run_on.Goals as goal

pub returns-in-Ok-add_text-clause-run : goal.returns-in-Ok-add_text-clause-run
returns-in-Ok-add_text-clause-run g c =
    let n : ℕ = c.args.number in
    let old : ContainerValue = c.args.container.now in
    let new : ContainerValue = c.step-lending.new.container in
    let sessions : SessionsState = put_back c.args.lent.now (Some c.args.lending.lanes) c.args.lending.serial in
    let after : SessionsState = put_back c.args.lent.now (Some c.step-lending.result.0.lanes) c.step-lending.result.0.serial in
    let P : LineAnswer → Type 0 = λ a. HasMadeStep n old sessions c.args.self.now (answer_of a (site_in new after c.step-lending.new.self)) new in
    let made : P c.in-Ok.answer = IfOk-at_ok P c.in-Ok.is c.step-lending.ensures.step in
    runs_once n old sessions c.args.self.now (string_bytes c.args.text.now) new after c.step-lending.new.self (string_bytes c.add_text.new.text) c.in-Ok.answer made
    (λ keeps. steps_done (site_in old sessions c.args.self.now) n keeps c.args.lending.lanes c.requires.number refl c.requires.goes_on) c.in-Ok-add_text.ensures

pub returns-in-Err-add_text-clause-breaks : goal.returns-in-Err-add_text-clause-breaks
returns-in-Err-add_text-clause-breaks g c =
    let n : ℕ = c.args.number in
    let old : ContainerValue = c.args.container.now in
    let new : ContainerValue = c.step-lending.new.container in
    let sessions : SessionsState = put_back c.args.lent.now (Some c.args.lending.lanes) c.args.lending.serial in
    let after : SessionsState = put_back c.args.lent.now (Some c.step-lending.result.0.lanes) c.step-lending.result.0.serial in
    let P : LineAnswer → Type 0 = λ a. HasMadeStep n old sessions c.args.self.now (answer_of a (site_in new after c.step-lending.new.self)) new in
    let made : P c.in-Ok.answer = IfOk-at_ok P c.in-Ok.is c.step-lending.ensures.step in
    made_breaks n old sessions c.args.self.now c.in-Ok.answer new after c.step-lending.new.self made
    (λ keeps. steps_done (site_in old sessions c.args.self.now) n keeps c.args.lending.lanes c.requires.number refl c.requires.goes_on)
