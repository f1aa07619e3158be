use Rattle.std.proofs.Common.{◌≡◌, Option, sym, ap, ◌∙◌, subst, IfSome}
use Rattle.crash_base.specs.declared.scope.Scope.{Scope}
use Rattle.journal_model.specs.Reboots.{IsUndone}
use Rattle.journal_model.specs.declared.entry.Entry.TheVariants.{Down, Up}
use Rattle.call_ticket.specs.Ticket.{TicketValue}
use Rattle.container_core.specs.Container.{ContainerValue, with_entry_event}
use Rattle.workload.specs.Turns.{scope_of}
use Rattle.workload.specs.Working.{GoesOn}
use Rattle.workload.proofs.Going.{goes_grown}
use Rattle.workload.proofs.Rebooting.{undone_first, reboot_done}
use Rattle.workload.proofs.turns.reboot_step.Goals as goal

pub end_reboot-requires-after_bounds : goal.end_reboot-requires-after_bounds
end_reboot-requires-after_bounds g c κs within =
    let s : Scope = c.scope_of-scope.result in
    (s, undone_first c.args.container.now c.begin_reboot.new.self s c.in-Ok.down.0 c.in-Ok.ensures.down c.in-Ok.ensures.place)

pub returns-in-Ok-clause-left : goal.returns-in-Ok-clause-left
returns-in-Ok-clause-left g c =
    let s : Scope = c.scope_of-scope.result in
    let old : ContainerValue = c.args.container.now in
    let mid : ContainerValue = c.begin_reboot.new.self in
    let new : ContainerValue = c.end_reboot.new.self in
    let undone : IsUndone mid.boot.entries c.in-Ok.down.0 s = undone_first old mid s c.in-Ok.down.0 c.in-Ok.ensures.down c.in-Ok.ensures.place in
    let up : new ≡ with_entry_event mid (Up s) = c.end_reboot.ensures.up s undone.down in
    let which : s ≡ scope_of old.boot c.args.c = c.scope_of-scope.ensures.scope ∙ ap (λ b. scope_of b c.args.c) c.as_boot.ensures.value in
    reboot_done old mid new c.args.ticket c.args.c s c.goes_on.result.ticket c.goes_on.result.outcome which c.in-Ok.ensures.answer c.in-Ok.ensures.down up c.goes_on.ensures.ticket c.goes_on.ensures.outcome

pub returns-in-Ok-clause-goes : goal.returns-in-Ok-clause-goes
returns-in-Ok-clause-goes g c =
    let old : ContainerValue = c.args.container.now in
    let mid : ContainerValue = c.begin_reboot.new.self in
    let new : ContainerValue = c.end_reboot.new.self in
    let P : Option TicketValue → Type 0 = λ o. IfSome o (GoesOn new.boot) in
    subst P (sym c.goes_on.ensures.ticket) (goes_grown mid.boot new.boot c.args.ticket c.end_reboot.ensures.grown.boot (goes_grown old.boot mid.boot c.args.ticket c.in-Ok.ensures.grown.boot c.requires.goes))

pub returns-in-Ok-clause-count : goal.returns-in-Ok-clause-count
returns-in-Ok-clause-count g c =
    let s : Scope = c.scope_of-scope.result in
    let old : ContainerValue = c.args.container.now in
    let mid : ContainerValue = c.begin_reboot.new.self in
    let new : ContainerValue = c.end_reboot.new.self in
    let undone : IsUndone mid.boot.entries c.in-Ok.down.0 s = undone_first old mid s c.in-Ok.down.0 c.in-Ok.ensures.down c.in-Ok.ensures.place in
    let up : new ≡ with_entry_event mid (Up s) = c.end_reboot.ensures.up s undone.down in
    let down : mid ≡ with_entry_event old (Down s) = c.in-Ok.ensures.down in
    ap (λ (k : ContainerValue). k.faults) up ∙ ap (λ (k : ContainerValue). k.faults) down
