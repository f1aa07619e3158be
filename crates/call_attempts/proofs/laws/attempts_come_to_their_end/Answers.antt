use Rattle.call_attempts.proofs.Lasting.{done_at_last, goes_on}
use Rattle.call_attempts.proofs.laws.attempts_come_to_their_end.Goals as goal

pub returns-clause-goes_on : goal.returns-clause-goes_on
returns-clause-goes_on c = goes_on

pub returns-clause-done : goal.returns-clause-done
returns-clause-done c = done_at_last c.calls_follow.ensures.step
