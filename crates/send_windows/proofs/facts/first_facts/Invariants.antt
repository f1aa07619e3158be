use Rattle.std.proofs.Common.{◌≡◌}
use Rattle.send_windows.specs.Facts.{first_facts}
use Rattle.send_windows.proofs.facts.first_facts.Given as goal

abbrev pub invariant-loop-before : goal.invariant-loop-before
invariant-loop-before l = l.facts.items ≡ first_facts l.before
