use Rattle.std.proofs.Common.{take}
use Rattle.crash_base.specs.declared.numbers.ComponentNo.{ComponentNo}
use Rattle.failure_scores.specs.Scores.{score}
use Rattle.failure_scores.proofs.Best.{on_paths, paths_more, paths_whole}
use Rattle.failure_scores.proofs.top.best_of.Goals as goal

pub loop-report-preserved : goal.loop-report-preserved
loop-report-preserved c =
    paths_more (λ (d : ComponentNo). score c.args.reports.now d c.args.now) c.args.reports.now c.loop-report.report-index c.report-item.result c.as_slice.result.now c.best_on-best.result c.loop-report-test.true c.report-item.is c.as_slice.ensures
    (c.best_on-best.ensures (on_paths (take c.loop-report.report-index c.args.reports.now)) c.loop-report.invariant)

pub returns : goal.returns
returns c = paths_whole (λ (d : ComponentNo). score c.args.reports.now d c.args.now) c.args.reports.now c.loop-report.report-index c.loop-report.best c.loop-report-test.false c.loop-report.invariant
