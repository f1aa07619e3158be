use Rattle.std.proofs.Common.{rules}
use Rattle.call_ticket.proofs.ticket.Ticket.take_parts.Goals as goal

pub returns-clause-writes : goal.returns-clause-writes
returns-clause-writes c = search rules
