use Rattle.std.proofs.Common.{sym, ◌∙◌}
use Rattle.crash_base.specs.declared.scope.TheConstants.{MAX_GROUPS}
use Rattle.boot_core.proofs.Busy.{busy_first, busy_next, busy_here}
use Rattle.boot_core.proofs.reboots.busy.Goals as goal

pub loop-number-init : goal.loop-number-init
loop-number-init c = busy_first c.args.journal.now.entries c.args.scope

pub loop-number-preserved : goal.loop-number-preserved
loop-number-preserved c =
    c.loop-number.invariant ∙ busy_next c.args.journal.now.entries c.args.scope MAX_GROUPS c.loop-number.number c.loop-number-test.true (sym c.busy_at.ensures.value ∙ c.in_default.is)

pub returns-in-Some-clause-value : goal.returns-in-Some-clause-value
returns-in-Some-clause-value c =
    sym (c.loop-number.invariant ∙ busy_here c.args.journal.now.entries c.args.scope MAX_GROUPS c.loop-number.number c.in-Some.refusal c.loop-number-test.true (sym c.in-Some.ensures.value))
