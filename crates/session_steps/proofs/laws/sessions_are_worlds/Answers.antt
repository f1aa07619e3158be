use Rattle.session_steps.proofs.Promised.{turns_made}
use Rattle.session_steps.proofs.laws.sessions_are_worlds.Goals as goal

pub returns : goal.returns
returns c = turns_made
