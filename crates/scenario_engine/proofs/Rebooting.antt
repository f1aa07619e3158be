-- What reboots of a scenario answer.
use Rattle.std.proofs.Common.{◌≡◌, ◌≢◌, ℕ, ◌+◌, Bool, Err, List, [], ◌∷◌, ◌++◌, length, Option, Some, None, refl, sym, ap, ◌∙◌, subst}
use Rattle.crash_base.specs.declared.numbers.Place.{Place}
use Rattle.crash_base.specs.declared.scope.Scope.{Scope}
use Rattle.journal_model.specs.declared.entry.Entry.{Entry}
use Rattle.journal_model.specs.declared.entry.Entry.TheVariants.{Down, Up}
use Rattle.journal_model.specs.Reboots.{IsUndone, undone_of}
use Rattle.journal_model.proofs.Undone.{undone_more}
use Rattle.boot_core.specs.Refusals.{reboot_refusal, RebootAnswer}
use Rattle.boot_core.specs.declared.refusals.RebootRefusal.{RebootRefusal}
use Rattle.boot_core.specs.declared.refusals.RebootRefusal.TheVariants.{Busy, JournalFull, OutOfMemory}
use Rattle.container_core.specs.Container.{ContainerValue, with_entry_event}
use Rattle.line_steps.specs.declared.callers.Caller.{Caller}
use Rattle.seat_lines.specs.Site.{SeatsState}
use Rattle.session_steps.specs.Sessions.{SessionsState}
use Rattle.scenario_text.specs.Answer.{Answer, Done, or_refused}
use Rattle.scenario_engine.specs.KeeperCalls.{seen}
use Rattle.scenario_engine.specs.State.{RunningState, running_value}
use Rattle.scenario_engine.specs.Running.{scope_of, with_boot_entry, reboots, up_step, reboot_step}
use Rattle.line_steps.specs.Texts.{down_text, up_text, reboot_refusal_text}

-- the running state of a container, its callers, the sessions and the connections
abbrev pub run_of : ContainerValue → List Caller → SessionsState → SeatsState → Bool → RunningState
run_of c callers sessions seats site = (running_value c callers sessions seats site).running

-- an entry leaves the keeper
pub kept_after : (k m : ContainerValue) (e : Entry) → m ≡ with_entry_event k e → seen m.told m.faults ≡ seen k.told k.faults
kept_after k m e is = ap (λ (c : ContainerValue). seen c.told c.faults) is

-- a Down that comes last is undone
pub undone_last : (es : List Entry) (s : Scope) → IsUndone (es ++ Down s ∷ []) (length es) s
undone_last [] s = record { down = refl; not_up = refl }
undone_last (e ∷ es) s = undone_more e (es ++ Down s ∷ []) (length es) s (undone_last es s)

-- a Down that has just come is undone
pub undone_first : (old now : ContainerValue) (s : Scope) (i : ℕ) → now ≡ with_entry_event old (Down s) → i ≡ length old.boot.entries → IsUndone now.boot.entries i s
undone_first old now s i down place =
    let P : ContainerValue → Type 0 = λ now. IsUndone now.boot.entries i s in
    let Q : ℕ → Type 0 = λ i. IsUndone (old.boot.entries ++ Down s ∷ []) i s in
    subst P (sym down) (subst Q (sym place) (undone_last old.boot.entries s))

pub up_done : (c now : ContainerValue) (callers : List Caller) (sessions : SessionsState) (seats : SeatsState) (site : Bool) (name : List ℕ) (s : Scope) (place : Place) (text : List ℕ) → scope_of c.boot.start.deployment name ≡ Some s → undone_of c.boot.entries s ≡ Some place → now ≡ with_entry_event c (Up s) → text ≡ up_text (length c.boot.entries) → Done (run_of now callers sessions seats site) text ≡ up_step (run_of c callers sessions seats site) name
unfolding up_step
up_done c now callers sessions seats site name s place text found undone came wrote =
    let r = run_of c callers sessions seats site in
    let up : Scope → Answer RunningState = λ s. or_refused (undone_of r.boot.entries s) (λ place. Done (with_boot_entry r (Up s)) (up_text (length r.boot.entries))) in
    let one : Done (run_of now callers sessions seats site) text ≡ Done (with_boot_entry r (Up s)) (up_text (length r.boot.entries)) = ap (λ (n : ContainerValue). Done (run_of n callers sessions seats site) text) came ∙ ap (λ t. Done (with_boot_entry r (Up s)) t) wrote in
    let two : up_step r name ≡ up s = ap (λ o. or_refused o up) found in
    let three : up s ≡ Done (with_boot_entry r (Up s)) (up_text (length r.boot.entries)) = ap (λ o. or_refused o (λ place. Done (with_boot_entry r (Up s)) (up_text (length r.boot.entries)))) undone in
    one ∙ sym (two ∙ three)

-- the answer to a reboot of a scope of the name
reboot_of : (r : RunningState) (name : List ℕ) (s : Scope) (refusal : Option RebootRefusal) → scope_of r.boot.start.deployment name ≡ Some s → reboot_refusal r.boot.start.limits r.boot.entries s ≡ refusal → reboots r s refusal ≡ reboot_step r name
unfolding reboot_step
reboot_of r name s refusal found is =
    let go : Scope → Answer RunningState = λ s. reboots r s (reboot_refusal r.boot.start.limits r.boot.entries s) in
    ap (λ o. reboots r s o) (sym is) ∙ sym (ap (λ o. or_refused o go) found)

pub reboot_done : (c now : ContainerValue) (callers : List Caller) (sessions : SessionsState) (seats : SeatsState) (site : Bool) (name : List ℕ) (s : Scope) (text : List ℕ) → scope_of c.boot.start.deployment name ≡ Some s → reboot_refusal c.boot.start.limits c.boot.entries s ≡ None → now ≡ with_entry_event (with_entry_event c (Down s)) (Up s) → text ≡ down_text (length c.boot.entries) ++ up_text (length c.boot.entries + 1) → Done (run_of now callers sessions seats site) text ≡ reboot_step (run_of c callers sessions seats site) name
reboot_done c now callers sessions seats site name s text found free came wrote =
    let r = run_of c callers sessions seats site in
    ap (λ (n : ContainerValue). Done (run_of n callers sessions seats site) text) came ∙ ap (λ t. Done (with_boot_entry (with_boot_entry r (Down s)) (Up s)) t) wrote ∙ reboot_of r name s None found free

pub reboot_refused : (c now : ContainerValue) (callers : List Caller) (sessions : SessionsState) (seats : SeatsState) (site : Bool) (name : List ℕ) (s : Scope) (refusal : RebootRefusal) (text : List ℕ) → scope_of c.boot.start.deployment name ≡ Some s → reboot_refusal c.boot.start.limits c.boot.entries s ≡ Some refusal → now ≡ c → text ≡ reboot_refusal_text refusal → Done (run_of now callers sessions seats site) text ≡ reboot_step (run_of c callers sessions seats site) name
reboot_refused c now callers sessions seats site name s refusal text found free came wrote =
    let r = run_of c callers sessions seats site in
    ap (λ (n : ContainerValue). Done (run_of n callers sessions seats site) text) came ∙ ap (λ t. Done r t) wrote ∙ reboot_of r name s (Some refusal) found free

-- a reboot answers its refusal, where memory did not run out
pub refused_of : (o : Option RebootRefusal) (refusal : RebootRefusal) → RebootAnswer o (Err refusal) → refusal ≢ OutOfMemory → o ≡ Some refusal
refused_of o (Busy group down) answer memory = answer
refused_of o (JournalFull full) answer memory = answer
refused_of o OutOfMemory answer memory = absurd (memory refl)
