use Rattle.std.proofs.Common.{rules}
use Rattle.call_ticket.proofs.ticket.Ticket.pop_frame.Goals as goal

pub returns : goal.returns
returns c = search rules
