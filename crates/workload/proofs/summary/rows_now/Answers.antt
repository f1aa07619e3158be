use Rattle.std.proofs.Common.{length, ap, ◌∙◌}
use Rattle.journal_model.specs.Snapshots.{snapshot}
use Rattle.std.proofs.Math.Seq.{take-length}
use Rattle.journal_model.specs.Rows.{rows_after}
use Rattle.workload.proofs.summary.rows_now.Goals as goal

pub returns : goal.returns
returns c =
    let base = c.args.boot.now.start.base in
    let es = c.args.boot.now.entries in
    c.in_ok-rows.ensures.journal base es c.rows.ensures ∙ ap (snapshot base es) (c.len.ensures ∙ ap length c.journal.ensures.entries) ∙ ap (rows_after base) (take-length es)
