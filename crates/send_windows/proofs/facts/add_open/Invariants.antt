use Rattle.std.proofs.Common.{◌≡◌, ◌++◌, take}
use Rattle.send_windows.specs.Facts.{open_passes}
use Rattle.send_windows.proofs.facts.add_open.Given as goal

abbrev pub invariant-loop-fact : goal.invariant-loop-fact
invariant-loop-fact l = l.passes.items ≡ l.fn.passes.items ++ open_passes (take l.fact-index l.facts)
