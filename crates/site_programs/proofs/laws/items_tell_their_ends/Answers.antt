use Rattle.site_programs.proofs.Items.{ended_so}
use Rattle.site_programs.proofs.laws.items_tell_their_ends.Goals as goal

pub returns : goal.returns
returns c = ended_so
