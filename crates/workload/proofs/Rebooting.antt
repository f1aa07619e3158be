-- What a reboot by a caller leaves.
use Rattle.std.proofs.Common.{◌≡◌, ◌≢◌, ℕ, Err, List, [], ◌∷◌, ◌++◌, length, Option, Some, None, refl, sym, ap, ◌∙◌, subst}
use Rattle.crash_base.specs.declared.numbers.ComponentNo.{ComponentNo}
use Rattle.crash_base.specs.declared.scope.Scope.{Scope}
use Rattle.journal_model.specs.declared.entry.Entry.{Entry}
use Rattle.journal_model.specs.declared.entry.Entry.TheVariants.{Down, Up}
use Rattle.journal_model.specs.Reboots.{IsUndone}
use Rattle.journal_model.proofs.Undone.{undone_more}
use Rattle.call_ticket.specs.Ticket.{TicketValue}
use Rattle.boot_core.specs.Boot.{BootValue, with_entry}
use Rattle.boot_core.specs.Refusals.{reboot_refusal, RebootAnswer}
use Rattle.boot_core.specs.declared.refusals.RebootRefusal.{RebootRefusal}
use Rattle.boot_core.specs.declared.refusals.RebootRefusal.TheVariants.{Busy, JournalFull, OutOfMemory}
use Rattle.container_core.specs.Container.{ContainerValue, with_entry_event}
use Rattle.workload.specs.Turns.{scope_of, reboot_ends, reboot_left}
use Rattle.workload.specs.Working.{left_at}
use Rattle.workload.specs.declared.tally.Outcome.{Outcome}
use Rattle.workload.specs.declared.tally.Outcome.TheVariants as outcomes

-- a Down that comes last is undone
undone_last : (es : List Entry) (s : Scope) → IsUndone (es ++ Down s ∷ []) (length es) s
undone_last [] s = record { down = refl; not_up = refl }
undone_last (e ∷ es) s = undone_more e (es ++ Down s ∷ []) (length es) s (undone_last es s)

-- a Down that has just come is undone
pub undone_first : (old now : ContainerValue) (s : Scope) (i : ℕ) → now ≡ with_entry_event old (Down s) → i ≡ length old.boot.entries → IsUndone now.boot.entries i s
undone_first old now s i down place =
    let P : ContainerValue → Type 0 = λ now. IsUndone now.boot.entries i s in
    let Q : ℕ → Type 0 = λ i. IsUndone (old.boot.entries ++ Down s ∷ []) i s in
    subst P (sym down) (subst Q (sym place) (undone_last old.boot.entries s))

-- a reboot answers its refusal, where memory did not run out
pub refused_of : (o : Option RebootRefusal) (refusal : RebootRefusal) → RebootAnswer o (Err refusal) → refusal ≢ OutOfMemory → o ≡ Some refusal
refused_of o (Busy g d) is memory = is
refused_of o (JournalFull full) is memory = is
refused_of o OutOfMemory is memory = absurd (memory refl)

pub reboot_done : (old mid new : ContainerValue) (ticket : TicketValue) (c : ComponentNo) (s : Scope) (t : Option TicketValue) (o : Option Outcome) → s ≡ scope_of old.boot c → reboot_refusal old.boot.start.limits old.boot.entries s ≡ None → mid ≡ with_entry_event old (Down s) → new ≡ with_entry_event mid (Up s) → t ≡ Some ticket → o ≡ None → left_at new.boot t o ≡ reboot_left old.boot ticket c
unfolding reboot_left
reboot_done old mid new ticket c s t o which free down up goes none =
    let b : BootValue = old.boot in
    let refusal : Scope → Option RebootRefusal = λ s. reboot_refusal b.start.limits b.entries s in
    let now : new.boot ≡ with_entry (with_entry b (Down s)) (Up s) = ap (λ (k : ContainerValue). k.boot) up ∙ ap (λ (k : ContainerValue). with_entry k.boot (Up s)) down in
    let left : left_at new.boot t o ≡ reboot_ends b ticket s None = ap (λ x. left_at x t o) now ∙ ap (λ x. left_at (with_entry (with_entry b (Down s)) (Up s)) x o) goes ∙ ap (λ x. left_at (with_entry (with_entry b (Down s)) (Up s)) (Some ticket) x) none in
    left ∙ ap (reboot_ends b ticket s) (sym free) ∙ ap (λ s. reboot_ends b ticket s (refusal s)) which

pub reboot_dropped : (old mid : ContainerValue) (ticket : TicketValue) (c : ComponentNo) (s : Scope) (refusal : RebootRefusal) (t : Option TicketValue) (o : Option Outcome) → s ≡ scope_of old.boot c → reboot_refusal old.boot.start.limits old.boot.entries s ≡ Some refusal → mid ≡ old → t ≡ None → o ≡ Some outcomes.Refused → left_at mid.boot t o ≡ reboot_left old.boot ticket c
unfolding reboot_left
reboot_dropped old mid ticket c s refusal t o which is same gone outcome =
    let b : BootValue = old.boot in
    let all : Scope → Option RebootRefusal = λ s. reboot_refusal b.start.limits b.entries s in
    let left : left_at mid.boot t o ≡ reboot_ends b ticket s (Some refusal) = ap (λ (k : ContainerValue). left_at k.boot t o) same ∙ ap (λ x. left_at b x o) gone ∙ ap (λ x. left_at b None x) outcome in
    left ∙ ap (reboot_ends b ticket s) (sym is) ∙ ap (λ s. reboot_ends b ticket s (all s)) which
