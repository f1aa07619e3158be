use Rattle.scenario_engine.proofs.ReportLines.{line-done, line-steps, line-tells, names-lead, reports-push, step-elsewhere, step-failed, step-tells}
use Rattle.scenario_engine.proofs.reporting.reports_are_those_of_lines.Goals as goal

pub returns-clause-line : goal.returns-clause-line
returns-clause-line c = line-tells

pub returns-clause-steps : goal.returns-clause-steps
returns-clause-steps c = line-steps

pub returns-clause-step : goal.returns-clause-step
returns-clause-step c = step-tells c.steps_are_those_of_seats.ensures.step

pub returns-clause-turns : goal.returns-clause-turns
returns-clause-turns c = reports-push

pub returns-clause-failed : goal.returns-clause-failed
returns-clause-failed c = step-failed

pub returns-clause-elsewhere : goal.returns-clause-elsewhere
returns-clause-elsewhere c = step-elsewhere

pub returns-clause-names : goal.returns-clause-names
returns-clause-names c = names-lead

pub returns-clause-done : goal.returns-clause-done
returns-clause-done c = line-done
