use Rattle.std.proofs.Common.{◌≡◌, ◌++◌, length}
use Rattle.std.specs.Option.{option_map}
use Rattle.scenario_text.specs.Arguments.{names_of}
use Rattle.scenario_text.specs.Words.{words_after}
use Rattle.scenario_text.proofs.arguments.names_of.Given as goal

abbrev pub invariant-loop-word : goal.invariant-loop-word
invariant-loop-word l = option_map (λ more. l.names ++ more) (names_of (words_after l.rest)) ≡ names_of (words_after l.fn.left)

abbrev pub decreases-loop-word : goal.decreases-loop-word
decreases-loop-word l = length (words_after l.rest)
