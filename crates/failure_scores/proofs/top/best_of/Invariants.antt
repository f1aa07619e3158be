use Rattle.std.proofs.Common.{take}
use Rattle.crash_base.specs.declared.numbers.ComponentNo.{ComponentNo}
use Rattle.failure_scores.specs.Scores.{score}
use Rattle.failure_scores.specs.Top.{IsBest}
use Rattle.failure_scores.proofs.Best.{on_paths}
use Rattle.failure_scores.proofs.top.best_of.Given as goal

abbrev pub invariant-loop-report : goal.invariant-loop-report
invariant-loop-report l =
    IsBest (λ (c : ComponentNo). score l.reports c l.now) (on_paths (take l.report-index l.reports)) l.best
