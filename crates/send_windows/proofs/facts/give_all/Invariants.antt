use Rattle.std.proofs.Common.{◌≡◌, ◌++◌, map, take, drop}
use Rattle.send_windows.specs.Facts.{given}
use Rattle.send_windows.proofs.facts.give_all.Given as goal

abbrev pub invariant-loop-fact : goal.invariant-loop-fact
invariant-loop-fact l = l.fact-items ≡ map (given l.passes) (take l.fact-index l.fn.facts.items) ++ drop l.fact-index l.fn.facts.items
