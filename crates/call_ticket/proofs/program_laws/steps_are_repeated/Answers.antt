use Rattle.call_ticket.proofs.Repeating.{repeated_is}
use Rattle.call_ticket.proofs.program_laws.steps_are_repeated.Goals as goal

pub returns : goal.returns
returns c = repeated_is
