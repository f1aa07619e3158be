use Rattle.std.proofs.Common.{rules}
use Rattle.session_steps.proofs.parts.Parts.tell_write.Goals as goal

pub returns : goal.returns
returns c = search rules
