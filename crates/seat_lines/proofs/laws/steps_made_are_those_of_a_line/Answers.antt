use Rattle.seat_lines.proofs.Making.{made_of_one, none_made, run_made, step_made}
use Rattle.seat_lines.proofs.laws.steps_made_are_those_of_a_line.Goals as goal

pub returns-clause-step : goal.returns-clause-step
returns-clause-step c = step_made

pub returns-clause-run : goal.returns-clause-run
returns-clause-run c = λ s mid t n before keeps out comes going is. run_made before s mid t n keeps out comes going is

pub returns-clause-still : goal.returns-clause-still
returns-clause-still c = none_made

pub returns-clause-own : goal.returns-clause-own
returns-clause-own c = made_of_one
