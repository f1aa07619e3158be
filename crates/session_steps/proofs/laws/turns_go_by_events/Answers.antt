use Rattle.session_steps.proofs.Between.{turns_by_events}
use Rattle.session_steps.proofs.laws.turns_go_by_events.Goals as goal

pub returns : goal.returns
returns c = turns_by_events
