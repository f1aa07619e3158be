use Rattle.std.proofs.Common.{◌≡◌, take}
use Rattle.send_windows.specs.Facts.{full_facts}
use Rattle.send_windows.proofs.facts.full_facts.Given as goal

abbrev pub invariant-loop-fact : goal.invariant-loop-fact
invariant-loop-fact l = l.full.items ≡ full_facts (take l.fact-index l.facts)
