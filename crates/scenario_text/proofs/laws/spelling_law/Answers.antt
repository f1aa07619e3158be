use Rattle.scenario_text.proofs.Spelled.{line_law}
use Rattle.scenario_text.proofs.laws.spelling_law.Goals as goal

pub returns-clause-spells : goal.returns-clause-spells
returns-clause-spells c = line_law
