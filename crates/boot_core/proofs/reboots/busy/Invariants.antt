use Rattle.std.proofs.Common.{◌≡◌, ◌-◌}
use Rattle.crash_base.specs.declared.scope.TheConstants.{MAX_GROUPS}
use Rattle.boot_core.specs.Refusals.{busy, busy_from}
use Rattle.boot_core.proofs.reboots.busy.Given as goal

abbrev pub invariant-loop-number : goal.invariant-loop-number
invariant-loop-number l = busy l.journal.entries l.scope ≡ busy_from l.journal.entries l.scope l.number (MAX_GROUPS - l.number)
