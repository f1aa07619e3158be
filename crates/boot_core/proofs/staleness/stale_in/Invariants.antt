use Rattle.std.proofs.Common.{◌≡◌, drop}
use Rattle.journal_model.specs.Stale.{stale_in}
use Rattle.boot_core.proofs.staleness.stale_in.Given as goal

abbrev pub invariant-loop-touch : goal.invariant-loop-touch
invariant-loop-touch l = stale_in l.journal.entries (drop l.touch-index l.touched) ≡ stale_in l.journal.entries l.touched
