use Rattle.std.proofs.Common.{ap, ◌∙◌, sym, subst, Option, Err, IfSome}
use Rattle.crash_base.specs.declared.numbers.ComponentNo.{ComponentNo}
use Rattle.deployment.specs.Groups.{group_of}
use Rattle.call_ticket.specs.Ticket.{TicketValue}
use Rattle.boot_core.specs.Boot.{BootValue}
use Rattle.boot_core.specs.Refusals.{CallAnswer, enter_refusal}
use Rattle.boot_core.specs.Steps.{ticket_entered}
use Rattle.boot_core.specs.declared.boot.Start.{Start}
use Rattle.boot_core.specs.declared.refusals.CallRefusal.{CallRefusal}
use Rattle.container_core.specs.Container.{ContainerValue}
use Rattle.workload.specs.Turns.{entered_by}
use Rattle.workload.specs.Working.{GoesOn}
use Rattle.workload.proofs.Inside.{known_component, entered_inside}
use Rattle.workload.proofs.Stepped.{not_entered}
use Rattle.workload.proofs.steps.enter_step.Goals as goal

pub enter-requires-clause-component : goal.enter-requires-clause-component
enter-requires-clause-component g c κs within =
    known_component c.args.container.now.boot.start.deployment c.entered_by.result c.args.key c.requires.parts c.entered_by.ensures

pub returns-in-Ok-clause-goes : goal.returns-in-Ok-clause-goes
returns-in-Ok-clause-goes g c =
    let old : BootValue = c.args.container.now.boot in
    let new : BootValue = c.enter.new.self.boot in
    let P : Option TicketValue → Type 0 = λ o. IfSome o (GoesOn new) in
    subst P (sym c.goes_on.ensures.ticket) (record {
      fits = c.in-Ok.ensures.fits;
      inside = entered_inside new.start.deployment old.entries c.args.ticket c.enter.new.ticket _ c.entered_by.result c.args.key (ap (λ (s : Start). s.deployment) c.in-Ok.ensures.grown.boot.start ∙ c.requires.parts) c.requires.outside c.entered_by.ensures c.in-Ok.ensures.entered;
    })

pub returns-in_ok-left-in-Err-clause-left : goal.returns-in_ok-left-in-Err-clause-left
returns-in_ok-left-in-Err-clause-left g c =
    let old : ContainerValue = c.args.container.now in
    let ticket : TicketValue = c.args.ticket in
    let x : ComponentNo = entered_by c.args.key in
    let next : TicketValue = ticket_entered old.boot.entries (group_of old.boot.start.deployment x.0) x ticket in
    let asks : ComponentNo → Option CallRefusal = λ y. enter_refusal old.boot ticket.call y in
    let is : CallAnswer {T = Unit {0}} (asks x) (Err c.in-Err.refusal) = subst (λ y. CallAnswer {T = Unit {0}} (asks y) (Err c.in-Err.refusal)) c.entered_by.ensures c.in-Err.ensures.answer in
    let left = c.in_ok-left-in-Err.ensures.answer in
    not_entered (Unit {0}) old.boot c.refused.new.container.boot c.in_ok-left-in-Err.left.ticket c.in_ok-left-in-Err.left.outcome x next (asks x) c.in-Err.refusal is left.2 (ap (λ (k : ContainerValue). k.boot) (c.refused.ensures.same ∙ c.in-Err.ensures.same)) left.0 left.1
