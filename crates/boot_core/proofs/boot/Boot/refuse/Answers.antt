use Rattle.std.proofs.Common.{◌≡◌, sym, ap, ◌∙◌, subst}
use Rattle.call_ticket.specs.Ticket.{TicketValue}
use Rattle.boot_core.specs.Boot.{BootValue}
use Rattle.boot_core.specs.Refusals.{IsCause, commit_refusal}
use Rattle.boot_core.specs.declared.refusals.CommitRefusal.{CommitRefusal}
use Rattle.boot_core.specs.declared.refusals.Refused.{Refused}
use Rattle.boot_core.proofs.Ordering.{tested_cause}
use Rattle.boot_core.proofs.boot.Boot.refuse.Goals as goal
use Rattle.boot_core.proofs.boot.Boot.refuse.Goals.{in-Some, in-None}

pub returns-clause-answer : goal.returns-clause-answer
returns-clause-answer c =
    let first = commit_refusal c.args.self.now.start.limits c.args.self.now.entries c.args.ticket.call c.args.action.now in
    let value : c.commit_refusal.result ≡ commit_refusal c.args.self.now.start.limits c.args.self.now.entries c.args.ticket.call c.args.action.now =
    c.commit_refusal.ensures.value ∙ ap (λ (t : TicketValue). commit_refusal c.self.inside.journal.limits c.self.inside.journal.entries t.call c.args.action.now) c.close_frames.ensures.closed
    ∙ ap (λ (x : BootValue). commit_refusal x.start.limits x.entries c.args.ticket.call c.args.action.now) c.self.view_is in
    let P : CommitRefusal → Type 0 = λ cause. IsCause first cause in
    elim c.match-commit_refusal.branch [
      | in-Some w ↦ subst P (sym (ap (λ (r : Refused). r.cause) (w.result-is ∙ w.refused.ensures))) (tested_cause first w.in-Some.cause (sym value ∙ w.in-Some.is) w.in-Some.ensures.tested)
      | in-None w ↦ subst P (sym (ap (λ (r : Refused). r.cause) (w.result-is ∙ w.refused-in-None.ensures))) (sym value ∙ w.in-None.is)
    ]
