-- A commit of a call that wrote nothing, which was refused, and not for want of memory: the journal refuses it.
use Rattle.std.proofs.Common.{◌≡◌, ◌↔◌, false, IsTrue, List, [], length, Option, None, ap, subst, sym, ◌∙◌, refl}
use Rattle.std.proofs.lemmas.Option.{none-some}
use Rattle.boot_core.specs.Keeper.{TellsCause}
use Rattle.boot_core.specs.Refusals.{IsCause, commit_refusal}
use Rattle.boot_core.specs.declared.refusals.CommitRefusal.{CommitRefusal}
use Rattle.boot_core.specs.declared.refusals.CommitRefusal.TheVariants as commits
use Rattle.call_ticket.specs.Ticket.{TicketValue, ticket_begun}
use Rattle.container_core.specs.Container.{ContainerValue}
use Rattle.crash_base.specs.declared.numbers.RequestNo.{RequestNo}
use Rattle.crash_base.specs.declared.numbers.WorkerNo.{WorkerNo}
use Rattle.crash_base.specs.declared.rows.RowWrite.{RowWrite}
use Rattle.memory_site.specs.Site.{MayCommit}
use Rattle.outside.specs.Keeper.{KeeperTold}

-- By the cause: a keeper is not called without writes.
by_cause : (refusal : Option CommitRefusal) (cause : CommitRefusal) (writes : List RowWrite) (old new : Option KeeperTold)
    → IsCause refusal cause → TellsCause cause writes old new → writes ≡ [] → (cause ≡ commits.OutOfMemory → ⊥) → refusal ≡ None → ⊥
by_cause refusal commits.KeeperFailed writes old new is told nothing other may = told.0 nothing
by_cause refusal commits.OutOfMemory writes old new is told nothing other may = other refl
by_cause refusal (commits.Already place) writes old new is told nothing other may = none-some (commits.Already place) (sym may ∙ is)
by_cause refusal (commits.Revoked s) writes old new is told nothing other may = none-some (commits.Revoked s) (sym may ∙ is)
by_cause refusal (commits.Conflict c) writes old new is told nothing other may = none-some (commits.Conflict c) (sym may ∙ is)
by_cause refusal (commits.JournalFull full) writes old new is told nothing other may = none-some (commits.JournalFull full) (sym may ∙ is)

-- So it is of a call that has just begun.
pub refused_by_journal : (request : RequestNo) (worker : WorkerNo) (container begun after : ContainerValue) (ticket : TicketValue) (cause : CommitRefusal)
    → begun ≡ container → ticket ≡ ticket_begun request worker (record { 0 = length container.boot.entries })
    → IsCause (commit_refusal begun.boot.start.limits begun.boot.entries ticket.call None) cause
    → TellsCause cause ticket.call.writes begun.told after.told → (cause ≡ commits.OutOfMemory → ⊥)
    → (IsTrue false ↔ MayCommit request worker container)
refused_by_journal request worker container begun after ticket cause same is answer told other =
    let P : ContainerValue → Type 0 = λ k. IsCause (commit_refusal k.boot.start.limits k.boot.entries ticket.call None) cause in
    let Q : TicketValue → Type 0 = λ t. IsCause (commit_refusal container.boot.start.limits container.boot.entries t.call None) cause in
    (λ no. absurd (cc), λ may. absurd (by_cause _ cause ticket.call.writes begun.told after.told (subst Q is (subst P same answer)) told (ap (λ (t : TicketValue). t.call.writes) is) other may))
