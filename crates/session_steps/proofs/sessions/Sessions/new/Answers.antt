use Rattle.session_steps.proofs.LineKeeps.{set_up_sessions}
use Rattle.session_steps.proofs.sessions.Sessions.new.Goals as goal

pub invariant_of-result : goal.invariant_of-result
invariant_of-result c = rw c.in_ok-parts.ensures (set_up_sessions c.args.setup 0)
