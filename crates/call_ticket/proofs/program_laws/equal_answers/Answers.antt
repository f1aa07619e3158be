use Rattle.call_ticket.proofs.EqualRuns.{equal_run}
use Rattle.call_ticket.proofs.program_laws.equal_answers.Goals as goal

pub returns : goal.returns
returns c = equal_run
