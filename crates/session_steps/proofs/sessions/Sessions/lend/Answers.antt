use Rattle.std.proofs.Common.{rules}
use Rattle.session_steps.proofs.sessions.Sessions.lend.Goals as goal

pub returns-clause-serial : goal.returns-clause-serial
returns-clause-serial c = search rules
