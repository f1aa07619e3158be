use Rattle.std.proofs.Common.{rules}
use Rattle.seat_lines.proofs.stepping.tell_step.Goals as goal

pub returns-clause-text : goal.returns-clause-text
returns-clause-text c = search rules

pub returns-clause-after : goal.returns-clause-after
returns-clause-after c = search rules
