use Rattle.std.proofs.Common.{rules, ◌≡◌, ℕ, ◌+◌, ◌<◌, ◌^◌, None, List, [], ◌∷◌, ◌++◌, length, sym, ap, ◌∙◌, subst}
use Rattle.call_ticket.specs.Ticket.{TicketValue}
use Rattle.crash_base.specs.declared.rows.RowWrite.{RowWrite}
use Rattle.journal_model.specs.declared.entry.Entry.TheVariants.{Commit}
use Rattle.journal_model.specs.Calls.{entry_of}
use Rattle.boot_core.specs.Boot.{BootValue}
use Rattle.boot_core.specs.Fits.{FitsIn}
use Rattle.boot_core.specs.Keeping.{with_writes}
use Rattle.boot_core.specs.Refusals.{IsCause, commit_refusal}
use Rattle.boot_core.specs.declared.refusals.CommitRefusal.{CommitRefusal}
use Rattle.boot_core.specs.declared.refusals.Refused.{Refused}
use Rattle.boot_core.proofs.Ordering.{tested_cause, keeper_cause}
use Rattle.boot_core.proofs.Kept.{kept_commit, kept_given, entry_made}
use Rattle.boot_core.proofs.boot.Boot.commit.Goals as goal

pub keep_writes-requires : goal.keep_writes-requires
keep_writes-requires g c =
    let P : ℕ → Type 0 = λ n. n + 1 < 2 ^ 64 in
    let same = c.len.ensures ∙ ap length c.take_room.ensures.entries in
    (search rules, (c.self.inside.rows.base, c.self.inside.journal.entries, c.self.invariant.noted, sym same, subst P (sym same) (c.commit_refusal.ensures.few c.in_default.is)))

pub invariant_of-self-2 : goal.invariant_of-self-2
invariant_of-self-2 g c =
    let inside = c.self.inside in
    let pool = c.close_frames.new.pool in
    let closed = c.close_frames.new.self in
    let none : commit_refusal inside.journal.limits inside.journal.entries c.args.ticket.call c.args.action ≡ None =
    ap (λ (t : TicketValue). commit_refusal inside.journal.limits inside.journal.entries t.call c.args.action) (sym c.close_frames.ensures.closed) ∙ sym c.commit_refusal.ensures.value ∙ c.in_default.is in
    let P : BootValue → Type 0 = λ v. FitsIn v c.args.ticket.call in
    let fits = subst P (sym c.self.view_is) c.requires in
    let made : c.push-place.new.self.entries ≡ inside.journal.entries ++ Commit (entry_of c.args.ticket.call c.args.action) ∷ [] =
    c.push-place.ensures.entries
    ∙ ap (λ es. es ++ Commit (record { request = c.request-request.result; worker = c.worker-worker.result; at = c.at-at.result; touched = c.in-Ok.parts.touched; reads = c.in-Ok.parts.marks; writes = c.in-Ok.parts.writes; action = c.args.action }) ∷ []) c.take_room.ensures.entries
    ∙ ap (λ e. inside.journal.entries ++ Commit e ∷ []) (entry_made closed.call c.args.action c.request-request.result c.worker-worker.result c.at-at.result c.in-Ok.parts.touched c.in-Ok.parts.marks c.in-Ok.parts.writes
    c.request-request.ensures c.worker-worker.ensures c.at-at.ensures c.in-Ok.ensures.touched c.in-Ok.ensures.marks c.in-Ok.ensures.writes)
    ∙ ap (λ (t : TicketValue). inside.journal.entries ++ Commit (entry_of t.call c.args.action) ∷ []) c.close_frames.ensures.closed in
    let noted = c.in-Ok-keep_writes.ensures.ok
    ∙ ap (λ (writes : List RowWrite). with_writes inside.rows (record { 0 = c.len.result }) writes) (c.in-Ok.ensures.writes ∙ ap (λ (t : TicketValue). t.call.writes) c.close_frames.ensures.closed) in
    let kept = kept_given inside.number inside.rows.base inside.deployment inside.journal.limits inside.journal.entries inside.names inside.rows inside.pool pool c.close_frames.ensures.components c.close_frames.ensures.plans c.self.invariant in
    kept_commit inside.number inside.deployment inside.journal c.push-place.new.self inside.names inside.rows c.keep_writes.new.rows pool (record { 0 = c.len.result }) c.args.ticket.call c.args.action
    kept (record { journal = fits.journal; frames = fits.frames; owned = fits.owned }) none made (c.push-place.ensures.limits ∙ c.take_room.ensures.limits) noted (c.len.ensures ∙ ap length c.take_room.ensures.entries)

pub returns-in-Some-clause-answer : goal.returns-in-Some-clause-answer
returns-in-Some-clause-answer g c =
    let first = commit_refusal c.args.self.now.start.limits c.args.self.now.entries c.args.ticket.call c.args.action in
    let value : c.commit_refusal.result ≡ commit_refusal c.args.self.now.start.limits c.args.self.now.entries c.args.ticket.call c.args.action =
    c.commit_refusal.ensures.value ∙ ap (λ (t : TicketValue). commit_refusal c.self.inside.journal.limits c.self.inside.journal.entries t.call c.args.action) c.close_frames.ensures.closed
    ∙ ap (λ (x : BootValue). commit_refusal x.start.limits x.entries c.args.ticket.call c.args.action) c.self.view_is in
    let P : CommitRefusal → Type 0 = λ cause. IsCause first cause in
    subst P (sym (ap (λ (r : Refused). r.cause) c.refused.ensures)) (tested_cause first c.in-Some.cause (sym value ∙ c.in-Some.is) c.in-Some.ensures.tested)

pub returns-in-Err-keep_writes-clause-answer : goal.returns-in-Err-keep_writes-clause-answer
returns-in-Err-keep_writes-clause-answer g c =
    let first = commit_refusal c.args.self.now.start.limits c.args.self.now.entries c.args.ticket.call c.args.action in
    let value : c.commit_refusal.result ≡ commit_refusal c.args.self.now.start.limits c.args.self.now.entries c.args.ticket.call c.args.action =
    c.commit_refusal.ensures.value ∙ ap (λ (t : TicketValue). commit_refusal c.self.inside.journal.limits c.self.inside.journal.entries t.call c.args.action) c.close_frames.ensures.closed
    ∙ ap (λ (x : BootValue). commit_refusal x.start.limits x.entries c.args.ticket.call c.args.action) c.self.view_is in
    keeper_cause first c.in-Err-keep_writes.cause (sym value ∙ c.in_default.is) c.in-Err-keep_writes.ensures.tells.0
