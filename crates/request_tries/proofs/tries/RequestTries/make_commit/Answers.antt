use Rattle.std.specs.Prelude.{IfSome}
use Rattle.std.proofs.Common.{Option, Some, sym, subst, ◌∙◌}
use Rattle.journal_model.specs.declared.entry.ActionEntry.{ActionEntry}
use Rattle.boot_core.specs.Fits.{FitsIn}
use Rattle.call_attempts.specs.Attempt.{AttemptValue}
use Rattle.request_tries.proofs.Answering.{may_hear, may_keep, may_keep_nothing}
use Rattle.request_tries.proofs.tries.RequestTries.make_commit.Goals as goal

pub returns-clause-commits : goal.returns-clause-commits
returns-clause-commits g c =
    may_hear c.args.container.now c.commit-answer.new.self c.args.self.now c.close.new.self c.hear_commit.new.self c.in-Some.attempt c.into_ticket-ticket.result c.in_ok-text.text c.at-at.result c.repeats-repeats.result c.args.done c.commit-answer.result c.front_at-now.result c.journal.result.now.entries c.hear_commit.result
    (record {
      was_open = sym c.close.ensures.value ∙ c.in-Some.is;
      ticket_is = c.into_ticket-ticket.ensures;
      repeats_is = c.repeats-repeats.ensures;
      text_is = c.in_ok-text.ensures;
      at_is = c.at-at.ensures;
      is_answer = c.commit-answer.ensures.answer;
      leaves = c.commit-answer.ensures.leaves;
      failed = c.commit-answer.ensures.failed;
    }) c.close.ensures.closed c.front_at-now.ensures c.journal.ensures.entries c.hear_commit.ensures.hears

pub returns-clause-nothing : goal.returns-clause-nothing
returns-clause-nothing g c =
    let action : ActionEntry = record { text = c.in_ok-text.text; done = c.args.done } in
    may_keep c.into_ticket-ticket.result.call (Some action) c.commit-answer.result c.args.container.now c.commit-answer.new.self c.hear_commit.result c.hear_commit.ensures.nothing c.commit-answer.ensures.leaves

pub returns-clause-keeper : goal.returns-clause-keeper
returns-clause-keeper g c =
    let action : ActionEntry = record { text = c.in_ok-text.text; done = c.args.done } in
    may_keep_nothing c.into_ticket-ticket.result.call (Some action) c.commit-answer.result c.args.container.now c.commit-answer.new.self c.hear_commit.result c.hear_commit.ensures.nothing c.commit-answer.ensures.leaves

pub returns-clause-held : goal.returns-clause-held
returns-clause-held g c =
    subst (λ (o : Option AttemptValue). IfSome o (λ a. FitsIn c.commit-answer.new.self.boot a.ticket.call)) (sym c.hear_commit.ensures.closed) tt
