use Rattle.send_windows.proofs.Keeping.{are_taken}
use Rattle.send_windows.proofs.laws.taken_passes_are_lawful.Goals as goal

pub returns : goal.returns
returns c = are_taken
