use Rattle.std.proofs.Common.{refl}
use Rattle.seat_steps.specs.Gone.{stage_gone}
use Rattle.seat_laws.proofs.ReportedOnce.{ended-none, gone-tells, step-reports}
use Rattle.seat_laws.proofs.reporting.seats_report_each_failure_once.Goals as goal

pub returns-clause-begins : goal.returns-clause-begins
returns-clause-begins c = refl

pub returns-clause-step : goal.returns-clause-step
returns-clause-step c = step-reports

pub returns-clause-ends : goal.returns-clause-ends
returns-clause-ends c = λ seat end is other. ended-none seat.connection end is other

pub returns-clause-gone : goal.returns-clause-gone
unfolding stage_gone
returns-clause-gone c = λ seat st i is. gone-tells seat.connection.stage i is
