use Rattle.scenario_text.proofs.EndedLines.{unended, ended}
use Rattle.scenario_text.proofs.cutting.ended_line.Goals as goal

pub returns-in_err-at-clause-ended : goal.returns-in_err-at-clause-ended
returns-in_err-at-clause-ended c = rw c.from_residual.ensures (unended c.args.text.now c.in_err-at.ensures)

pub returns-clause-ended : goal.returns-clause-ended
returns-clause-ended c = ended c.args.text.now c.in_ok-at.at c.in_ok-at.ensures
