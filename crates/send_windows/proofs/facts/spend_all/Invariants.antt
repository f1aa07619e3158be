use Rattle.std.proofs.Common.{◌≡◌, take}
use Rattle.send_windows.specs.Facts.{all_spent}
use Rattle.send_windows.proofs.facts.spend_all.Given as goal

abbrev pub invariant-loop-pass : goal.invariant-loop-pass
invariant-loop-pass l = l.facts.items ≡ all_spent l.fn.facts.items (take l.pass-index l.passes)
