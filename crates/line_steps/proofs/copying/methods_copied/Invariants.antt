use Rattle.std.proofs.Common.{◌≡◌, ◌++◌, drop}
use Rattle.line_steps.proofs.copying.methods_copied.Given as goal

abbrev pub invariant-loop-method : goal.invariant-loop-method
invariant-loop-method l = l.copy ++ drop l.method-index l.methods ≡ l.methods
