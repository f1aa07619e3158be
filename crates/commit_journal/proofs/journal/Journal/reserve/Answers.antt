use Rattle.std.proofs.Common.{◌<◌, ap, arith}
use Rattle.commit_journal.specs.Journal.{JournalValue}
use Rattle.commit_journal.proofs.Reserving.{on_err}
use Rattle.commit_journal.proofs.journal.Journal.reserve.Goals as goal

pub returns-in_err-reserve-2-clause-needed : goal.returns-in_err-reserve-2-clause-needed
returns-in_err-reserve-2-clause-needed c =
    let inside = c.self.inside in
    let kept = c.self.invariant.counted in
    let short : inside.room < c.saturating_add-places.result = c.in_err-reserve-2.ensures.needed inside.room c.self.invariant.for_requests in
    let less : c.args.self.now.spare < c.args.entries =
    omega (arith, short, ap (λ (v : JournalValue). v.spare) c.self.view_is, kept.room, kept.kept_counted, c.in_ok-reserve.ensures.ok, c.saturating_add-places.ensures, c.saturating_add-more.ensures) in
    on_err _ less
