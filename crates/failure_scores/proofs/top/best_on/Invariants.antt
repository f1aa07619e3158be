use Rattle.std.proofs.Common.{List, ◌++◌, take}
use Rattle.crash_base.specs.declared.numbers.ComponentNo.{ComponentNo}
use Rattle.failure_scores.specs.Scores.{score}
use Rattle.failure_scores.specs.Top.{IsBest}
use Rattle.failure_scores.proofs.top.best_on.Given as goal

abbrev pub invariant-loop-component : goal.invariant-loop-component
invariant-loop-component l =
    (seen : List ComponentNo) → IsBest (λ (c : ComponentNo). score l.reports c l.now) seen l.fn.before →
    IsBest (λ (c : ComponentNo). score l.reports c l.now) (seen ++ take l.component-index l.path) l.best
