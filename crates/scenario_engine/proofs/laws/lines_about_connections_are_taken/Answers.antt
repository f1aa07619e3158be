use Rattle.scenario_engine.proofs.StepsMade.{line_bare, line_done, line_stays, line_taken}
use Rattle.scenario_engine.proofs.laws.lines_about_connections_are_taken.Goals as goal

pub returns-clause-taken : goal.returns-clause-taken
returns-clause-taken c = line_taken

pub returns-clause-done : goal.returns-clause-done
returns-clause-done c = line_done

pub returns-clause-stays : goal.returns-clause-stays
returns-clause-stays c = line_stays

pub returns-clause-bare : goal.returns-clause-bare
returns-clause-bare c = line_bare
