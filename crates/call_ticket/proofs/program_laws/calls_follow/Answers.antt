use Rattle.call_ticket.proofs.Tracking.{followed_may_step, followed_is_done}
use Rattle.call_ticket.proofs.program_laws.calls_follow.Goals as goal

pub returns-clause-step : goal.returns-clause-step
returns-clause-step c = followed_may_step

pub returns-clause-done : goal.returns-clause-done
returns-clause-done c = followed_is_done
