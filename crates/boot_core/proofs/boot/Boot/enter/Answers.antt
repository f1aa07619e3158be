use Rattle.std.proofs.Common.{rules, ◌≡◌, ℕ, ◌<◌, None, sym, ap, ◌∙◌, subst}
use Rattle.call_ticket.specs.Ticket.{TicketValue}
use Rattle.crash_base.specs.declared.scope.TheConstants.{MAX_GROUPS}
use Rattle.deployment.specs.Groups.{group_of}
use Rattle.journal_model.specs.Reboots.{down_of}
use Rattle.component_pool.specs.Journal.{reboots_in}
use Rattle.component_pool.specs.Pool.{entered_in, times}
use Rattle.boot_core.specs.Boot.{BootValue}
use Rattle.boot_core.specs.Faults.{fault_of}
use Rattle.boot_core.specs.Fits.{FitsIn}
use Rattle.boot_core.specs.Keeping.{start_of, of_parts}
use Rattle.boot_core.specs.Refusals.{barred, failing, enter_refusal}
use Rattle.boot_core.specs.Steps.{ticket_entered}
use Rattle.boot_core.proofs.Entering.{free_enter, answers_first}
use Rattle.boot_core.proofs.Fitting.{fits_entering}
use Rattle.boot_core.proofs.Kept.{kept_pool}
use Rattle.boot_core.proofs.boot.Boot.enter.Goals as goal

pub returns-in-Some-failing-clause-answer : goal.returns-in-Some-failing-clause-answer
returns-in-Some-failing-clause-answer c =
    let inside = c.self.inside in
    let v : BootValue = of_parts (start_of inside.number inside.rows.base inside.deployment inside.pool.plans inside.journal.limits) inside.journal.entries (entered_in inside.pool) in
    let free : barred v.entries c.args.ticket.now.call (group_of v.start.deployment c.args.c.0) ≡ None = ap (barred v.entries c.args.ticket.now.call) (sym c.group_of-group.ensures.number) ∙ sym c.barred.ensures.value ∙ c.in_default.is in
    let fails : c.failing.result ≡ failing c.args.c (fault_of v c.args.c) = c.failing.ensures.value v.start.deployment v.start.plans (times v.entered) (reboots_in v.entries) c.self.invariant.stands in
    let same : enter_refusal v c.args.ticket.now.call c.args.c ≡ enter_refusal c.args.self.now c.args.ticket.now.call c.args.c = ap (λ (x : BootValue). enter_refusal x c.args.ticket.now.call c.args.c) c.self.view_is in
    answers_first (enter_refusal c.args.self.now c.args.ticket.now.call c.args.c) c.in-Some-failing.refusal (sym same ∙ free_enter v c.args.ticket.now.call c.args.c free ∙ sym fails ∙ c.in-Some-failing.is) c.in-Some-failing.ensures.memory

pub returns-in_err-instance-clause-answer : goal.returns-in_err-instance-clause-answer
returns-in_err-instance-clause-answer c =
    let inside = c.self.inside in
    let v : BootValue = of_parts (start_of inside.number inside.rows.base inside.deployment inside.pool.plans inside.journal.limits) inside.journal.entries (entered_in inside.pool) in
    let free : barred v.entries c.args.ticket.now.call (group_of v.start.deployment c.args.c.0) ≡ None = ap (barred v.entries c.args.ticket.now.call) (sym c.group_of-group.ensures.number) ∙ sym c.barred.ensures.value ∙ c.in_default.is in
    let fails : c.failing.result ≡ failing c.args.c (fault_of v c.args.c) = c.failing.ensures.value v.start.deployment v.start.plans (times v.entered) (reboots_in v.entries) c.self.invariant.stands in
    let same : enter_refusal v c.args.ticket.now.call c.args.c ≡ enter_refusal c.args.self.now c.args.ticket.now.call c.args.c = ap (λ (x : BootValue). enter_refusal x c.args.ticket.now.call c.args.c) c.self.view_is in
    let none : enter_refusal c.args.self.now c.args.ticket.now.call c.args.c ≡ None = sym same ∙ free_enter v c.args.ticket.now.call c.args.c free ∙ sym fails ∙ c.in_default-failing.is in
    search rules

pub invariant_of-self-2 : goal.invariant_of-self-2
invariant_of-self-2 c =
    let inside = c.self.inside in
    let stands = c.in_ok-instance.ensures.stands inside.deployment inside.pool.plans (times (entered_in inside.pool)) (reboots_in inside.journal.entries) c.self.invariant.stands in
    kept_pool inside.number inside.rows.base inside.deployment inside.journal.limits inside.journal.entries inside.names inside.rows inside.pool c.take_instance.new.pool c.in_ok-instance.ensures.plans stands c.self.invariant

pub returns-clause-answer : goal.returns-clause-answer
returns-clause-answer c =
    let inside = c.self.inside in
    let v : BootValue = of_parts (start_of inside.number inside.rows.base inside.deployment inside.pool.plans inside.journal.limits) inside.journal.entries (entered_in inside.pool) in
    let free : barred v.entries c.args.ticket.now.call (group_of v.start.deployment c.args.c.0) ≡ None = ap (barred v.entries c.args.ticket.now.call) (sym c.group_of-group.ensures.number) ∙ sym c.barred.ensures.value ∙ c.in_default.is in
    let fails : c.failing.result ≡ failing c.args.c (fault_of v c.args.c) = c.failing.ensures.value v.start.deployment v.start.plans (times v.entered) (reboots_in v.entries) c.self.invariant.stands in
    let same : enter_refusal v c.args.ticket.now.call c.args.c ≡ enter_refusal c.args.self.now c.args.ticket.now.call c.args.c = ap (λ (x : BootValue). enter_refusal x c.args.ticket.now.call c.args.c) c.self.view_is in
    sym same ∙ free_enter v c.args.ticket.now.call c.args.c free ∙ sym fails ∙ c.in_default-failing.is

pub returns-clause-fits : goal.returns-clause-fits
returns-clause-fits c =
    let inside = c.self.inside in
    let v : BootValue = of_parts (start_of inside.number inside.rows.base inside.deployment inside.pool.plans inside.journal.limits) inside.journal.entries (entered_in inside.pool) in
    let g : ℕ = group_of v.start.deployment c.args.c.0 in
    let number : c.group_of-group.result.0 ≡ g = c.group_of-group.ensures.number in
    let Known : ℕ → Type 0 = λ n. n < MAX_GROUPS in
    let Fit : BootValue → Type 0 = λ x. FitsIn x c.args.ticket.now.call in
    let P : TicketValue → Type 0 = λ t. FitsIn v t.call in
    let up : down_of v.entries g ≡ None = ap (down_of v.entries) (sym number) ∙ c.barred.ensures.up c.in_default.is in
    let made = c.open_frame.ensures ∙ ap (λ (n : ℕ). ticket_entered v.entries n c.args.c c.args.ticket.now) number in
    let fits = subst P (sym made) (fits_entering v c.args.ticket.now.call c.args.c (subst Fit (sym c.self.view_is) c.requires.fits) (subst Known number c.group_of-group.ensures.known) up) in
    record { journal = fits.journal; frames = fits.frames; owned = fits.owned }
