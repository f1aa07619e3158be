use Rattle.std.proofs.Common.{◌≡◌, ◌++◌, length, List}
use Rattle.std.specs.Prelude.{option_map}
use Rattle.crash_base.specs.declared.numbers.ComponentNo.{ComponentNo}
use Rattle.seat_lines.specs.Hearing.{path_of}
use Rattle.seat_lines.proofs.hearing.path_of.Given as goal

abbrev pub invariant-loop-rest : goal.invariant-loop-rest
invariant-loop-rest l = option_map (λ (more : List ComponentNo). l.path ++ more) (path_of l.fn.deployment l.rest) ≡ path_of l.fn.deployment l.fn.names

abbrev pub decreases-loop-rest : goal.decreases-loop-rest
decreases-loop-rest l = length l.rest
