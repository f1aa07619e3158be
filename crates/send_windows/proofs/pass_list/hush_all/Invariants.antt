use Rattle.std.proofs.Common.{◌≡◌, ◌++◌, map, take, drop}
use Rattle.send_windows.specs.Passes.{hushed}
use Rattle.send_windows.proofs.pass_list.hush_all.Given as goal

abbrev pub invariant-loop-pass : goal.invariant-loop-pass
invariant-loop-pass l = l.pass-items ≡ map hushed (take l.pass-index l.fn.passes.items) ++ drop l.pass-index l.fn.passes.items
