use Rattle.std.proofs.Common.{arith}
use Rattle.journal_model.proofs.Following.{statuses_up}
use Rattle.journal_model.proofs.statuses.GroupStatuses.set_scope_up.Goals as goal

pub returns-clause-journal : goal.returns-clause-journal
returns-clause-journal c = statuses_up c.args.scope c.args.self.now c.loop-number.self (λ g within. c.loop-number.invariant.below g (omega arith))
