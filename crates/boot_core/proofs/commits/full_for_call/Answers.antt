use Rattle.std.proofs.Common.{Some, sym, ◌∙◌, ap, arith}
use Rattle.journal_model.specs.declared.limits.JournalLimits.{JournalLimits}
use Rattle.journal_model.specs.Limits.{full_for}
use Rattle.boot_core.proofs.Refusing.{full_none, full_past, counted_some, counted_none}
use Rattle.boot_core.proofs.commits.full_for_call.Goals as goal

pub returns-in-Some-clause-value : goal.returns-in-Some-clause-value
returns-in-Some-clause-value c =
    c.full_for.ensures ∙ ap (full_for c.args.journal.now.limits c.args.journal.now.entries 1) (sym (counted_some _ c.in-Some.bytes (sym c.bytes_of_call.ensures ∙ c.in-Some.is)))

pub returns-in-None-clause-value : goal.returns-in-None-clause-value
returns-in-None-clause-value c =
    let bytes = ap (λ (l : JournalLimits). l.bytes) c.limits-limits.ensures in
    ap (λ f. Some f) c.fullness.ensures ∙ sym (full_past c.args.journal.now.limits c.args.journal.now.entries 1 _ (omega (arith, bytes, counted_none _ (sym c.bytes_of_call.ensures ∙ c.in-None.is))))

pub returns-in-Some-clause-few : goal.returns-in-Some-clause-few
returns-in-Some-clause-few c = λ none.
    let limit = ap (λ (l : JournalLimits). l.entries) c.limits-limits.ensures in
    let room = full_none c.args.journal.now.limits c.args.journal.now.entries 1 c.in-Some.bytes (sym c.full_for.ensures ∙ none) in
    omega (arith, limit, room.0)

pub returns-in-None-clause-few : goal.returns-in-None-clause-few
returns-in-None-clause-few c = λ none. absurd (cc)
