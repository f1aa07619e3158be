use Rattle.call_ticket.proofs.EqualRuns.{serial}
use Rattle.call_ticket.proofs.program_laws.serial_order.Goals as goal

pub returns : goal.returns
returns c = serial
