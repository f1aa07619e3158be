-- What a commit leaves, by the reply of the keeper.
use Rattle.std.proofs.Common.{◌≡◌, ◌≢◌, ℕ, Bool, true, false, Ok, List, [], ◌∷◌, Option, Some, None, refl, sym, ap, ◌∙◌, subst}
use Rattle.crash_base.specs.declared.numbers.Place.{Place}
use Rattle.crash_base.specs.declared.rows.RowWrite.{RowWrite}
use Rattle.outside.specs.Faults.{Rose}
use Rattle.outside.specs.Keeper.{KeeperTold}
use Rattle.journal_model.specs.Calls.{Call, entry_of}
use Rattle.journal_model.specs.declared.entry.Entry.TheVariants.{Commit}
use Rattle.call_ticket.specs.Ticket.{TicketValue}
use Rattle.boot_core.specs.Boot.{BootValue, with_entry}
use Rattle.boot_core.specs.Keeper.{TellsCause}
use Rattle.boot_core.specs.Refusals.{IsCause, commit_refusal}
use Rattle.boot_core.specs.declared.refusals.CommitRefusal.{CommitRefusal}
use Rattle.boot_core.specs.declared.refusals.CommitRefusal.TheVariants as commits
use Rattle.container_core.specs.Container.{ContainerValue, CommitLeaves, RefusalLeaves}
use Rattle.workload.specs.Turns.{with_reply, commit_ends, commit_left, commit_outcome}
use Rattle.workload.specs.Working.{left_at, ComesBy}
use Rattle.workload.specs.declared.tally.Outcome.{Outcome}
use Rattle.workload.specs.declared.tally.Outcome.TheVariants as outcomes

true_not_false : true ≡ false → ⊥
true_not_false h = absurd (cc)

-- the refusal of a commit, by the reply of the keeper
record Meets (refusal : Option CommitRefusal) (writes : List RowWrite) (last : Option CommitRefusal) (old new : ℕ) : Type 0 where
  keeps : Bool
  ends : last ≡ with_reply refusal writes keeps
  rose : keeps ≡ false → Rose old new

all_kept : (writes : List RowWrite) → with_reply None writes true ≡ None
all_kept [] = refl
all_kept (w ∷ ws) = refl

faulted : (writes : List RowWrite) (old new : ℕ) → writes ≢ [] → Rose old new → Meets None writes (Some commits.KeeperFailed) old new
faulted [] old new some rose = absurd (some refl)
faulted (w ∷ ws) old new some rose = record { keeps = false; ends = refl; rose = λ h. rose }

tested : (refusal : Option CommitRefusal) (cause : CommitRefusal) (writes : List RowWrite) (old new : ℕ) → refusal ≡ Some cause → Meets refusal writes (Some cause) old new
tested refusal cause writes old new is =
    subst (λ o. Meets o writes (Some cause) old new) (sym is) (record { keeps = true; ends = refl; rose = λ h. absurd (true_not_false h) })

met : (refusal : Option CommitRefusal) (cause : CommitRefusal) (writes : List RowWrite) (told after : Option KeeperTold) (old new : ℕ) → cause ≢ commits.OutOfMemory → IsCause refusal cause → TellsCause cause writes told after → (cause ≡ commits.KeeperFailed → Rose old new) → Meets refusal writes (Some cause) old new
met refusal commits.KeeperFailed writes told after old new memory is (some, tells) rose = subst (λ o. Meets o writes (Some commits.KeeperFailed) old new) (sym is) (faulted writes old new some (rose refl))
met refusal commits.OutOfMemory writes told after old new memory is tells rose = absurd (memory refl)
met refusal (commits.Already place) writes told after old new memory is tells rose = tested refusal (commits.Already place) writes old new is
met refusal (commits.Revoked s) writes told after old new memory is tells rose = tested refusal (commits.Revoked s) writes old new is
met refusal (commits.Conflict x) writes told after old new memory is tells rose = tested refusal (commits.Conflict x) writes old new is
met refusal (commits.JournalFull full) writes told after old new memory is tells rose = tested refusal (commits.JournalFull full) writes old new is

-- a refused commit leaves the boot
pub boot_kept : (cause : CommitRefusal) (call : Call) (old new : ContainerValue) → RefusalLeaves cause call old new → new.boot ≡ old.boot
boot_kept commits.KeeperFailed call old new leaves = leaves.0
boot_kept commits.OutOfMemory call old new leaves = leaves.0
boot_kept (commits.Already place) call old new leaves = ap (λ (c : ContainerValue). c.boot) leaves
boot_kept (commits.Revoked s) call old new leaves = ap (λ (c : ContainerValue). c.boot) leaves
boot_kept (commits.Conflict x) call old new leaves = ap (λ (c : ContainerValue). c.boot) leaves
boot_kept (commits.JournalFull full) call old new leaves = ap (λ (c : ContainerValue). c.boot) leaves

left_is : (a b : BootValue) (t u : Option TicketValue) (o p : Option Outcome) → a ≡ b → t ≡ u → o ≡ p → left_at a t o ≡ left_at b u p
left_is a b t u o p boot ticket outcome = ap (λ x. left_at x t o) boot ∙ ap (λ x. left_at b x o) ticket ∙ ap (λ x. left_at b u x) outcome

pub committed : (old new : ContainerValue) (ticket : TicketValue) (place : Place) (t : Option TicketValue) (o : Option Outcome) → commit_refusal old.boot.start.limits old.boot.entries ticket.call None ≡ None → CommitLeaves ticket.call None (Ok place) old new → t ≡ None → o ≡ Some outcomes.Committed → ComesBy (left_at new.boot t o) (commit_left old.boot ticket) old.faults new.faults
unfolding commit_left
committed old new ticket place t o free leaves dropped is =
    let refusal = commit_refusal old.boot.start.limits old.boot.entries ticket.call None in
    let writes : List RowWrite = ticket.call.writes in
    let grown : new.boot ≡ with_entry old.boot (Commit (entry_of ticket.call None)) = ap (λ (c : ContainerValue). c.boot) leaves.1 in
    let none : with_reply refusal writes true ≡ None = ap (λ r. with_reply r writes true) free ∙ all_kept writes in
    record {
      keeps = true;
      is = left_is new.boot _ t None o _ grown dropped is ∙ ap (commit_ends old.boot ticket) (sym none);
      rose = λ h. absurd (true_not_false h);
    }

pub refused : (old new : ContainerValue) (ticket : TicketValue) (cause : CommitRefusal) (t : Option TicketValue) (o : Option Outcome) → cause ≢ commits.OutOfMemory → IsCause (commit_refusal old.boot.start.limits old.boot.entries ticket.call None) cause → RefusalLeaves cause ticket.call old new → TellsCause cause ticket.call.writes old.told new.told → (cause ≡ commits.KeeperFailed → Rose old.faults new.faults) → t ≡ None → o ≡ Some (commit_outcome cause) → ComesBy (left_at new.boot t o) (commit_left old.boot ticket) old.faults new.faults
unfolding commit_left
refused old new ticket cause t o memory is leaves tells rose dropped outcome =
    let refusal = commit_refusal old.boot.start.limits old.boot.entries ticket.call None in
    let meets : Meets refusal ticket.call.writes (Some cause) old.faults new.faults = met refusal cause ticket.call.writes old.told new.told old.faults new.faults memory is tells rose in
    record {
      keeps = meets.keeps;
      is = left_is new.boot old.boot t None o _ (boot_kept cause ticket.call old new leaves) dropped outcome ∙ ap (commit_ends old.boot ticket) meets.ends;
      rose = meets.rose;
    }
