use Rattle.std.proofs.Common.{rules}
use Rattle.seat_steps.proofs.events.take_at.Goals as goal

pub returns-then-now-clause-taken : goal.returns-then-now-clause-taken
returns-then-now-clause-taken c = search rules
