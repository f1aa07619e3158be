use Rattle.std.proofs.Common.{◌≡◌, take}
use Rattle.ssm_stub.specs.Ends.{bricks_of}
use Rattle.ssm_stub.proofs.writing.bricks_of.Given as goal

abbrev pub invariant-loop-pass : goal.invariant-loop-pass
invariant-loop-pass l = l.bricks.items ≡ bricks_of (take l.pass-index l.passes)
