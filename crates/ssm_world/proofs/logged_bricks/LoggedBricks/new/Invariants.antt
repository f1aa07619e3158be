use Rattle.std.proofs.Common.{◌≡◌, length, []}
use lib.ListN.{replicate}
use Rattle.ssm_world.specs.Logged.{histories_of, AreNumbered}
use Rattle.ssm_world.proofs.logged_bricks.LoggedBricks.new.Given as goal

abbrev pub invariant-loop-i : goal.invariant-loop-i
invariant-loop-i l = record { numbered : AreNumbered l.all.items; blank : histories_of l.all.items ≡ replicate l.i []; count : length l.all.items ≡ l.i }
