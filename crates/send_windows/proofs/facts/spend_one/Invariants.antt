use Rattle.std.proofs.Common.{◌≡◌, ◌++◌, map, take, drop}
use Rattle.send_windows.specs.Facts.{spent}
use Rattle.send_windows.proofs.facts.spend_one.Given as goal

abbrev pub invariant-loop-fact : goal.invariant-loop-fact
invariant-loop-fact l = l.fact-items ≡ map (spent l.pass) (take l.fact-index l.fn.facts.items) ++ drop l.fact-index l.fn.facts.items
