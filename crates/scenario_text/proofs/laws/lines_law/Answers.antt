use Rattle.scenario_text.proofs.Cuts.{cut_law}
use Rattle.scenario_text.proofs.laws.lines_law.Goals as goal

pub returns : goal.returns
returns c = cut_law
