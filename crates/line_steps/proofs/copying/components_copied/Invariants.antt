use Rattle.std.proofs.Common.{◌≡◌, ◌++◌, drop}
use Rattle.line_steps.proofs.copying.components_copied.Given as goal

abbrev pub invariant-loop-component : goal.invariant-loop-component
invariant-loop-component l = l.copy ++ drop l.component-index l.components ≡ l.components
