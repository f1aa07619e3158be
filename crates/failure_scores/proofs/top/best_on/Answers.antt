use Rattle.std.proofs.Common.{◌++◌, take, sym}
use Rattle.crash_base.specs.declared.numbers.ComponentNo.{ComponentNo}
use Rattle.failure_scores.specs.Scores.{score}
use Rattle.failure_scores.proofs.Best.{best_more, best_whole}
use Rattle.failure_scores.proofs.top.best_on.Goals as goal

pub loop-component-preserved : goal.loop-component-preserved
loop-component-preserved c = λ seen first.
    best_more (λ (d : ComponentNo). score c.args.reports.now d c.args.now) seen c.args.path.now c.loop-component.component-index _ c.better-best.result c.loop-component-test.true
    (c.better-best.ensures (λ (d : ComponentNo). score c.args.reports.now d c.args.now) (seen ++ take c.loop-component.component-index c.args.path.now) (sym c.score_of.ensures) (c.loop-component.invariant seen first))

pub returns : goal.returns
returns c = λ seen first.
    best_whole (λ (d : ComponentNo). score c.args.reports.now d c.args.now) seen c.args.path.now c.loop-component.component-index c.loop-component.best c.loop-component-test.false (c.loop-component.invariant seen first)
