use Rattle.std.proofs.Common.{arith}
use Rattle.journal_model.proofs.Following.{statuses_down}
use Rattle.journal_model.proofs.statuses.GroupStatuses.set_scope_down.Goals as goal

pub returns-clause-journal : goal.returns-clause-journal
returns-clause-journal c = statuses_down c.args.scope c.args.down c.args.self.now c.loop-number.self c.requires.up (λ g within. c.loop-number.invariant.below g (omega arith))
