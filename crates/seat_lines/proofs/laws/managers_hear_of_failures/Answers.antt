use Rattle.seat_lines.proofs.Heard.{is_reported, line_hears, many_refused, none_refused, reports_by_steps, unknown_none}
use Rattle.seat_lines.proofs.Saying.{reports_in_line}
use Rattle.seat_lines.proofs.laws.managers_hear_of_failures.Goals as goal

pub returns-clause-line : goal.returns-clause-line
returns-clause-line c = line_hears

pub returns-clause-steps : goal.returns-clause-steps
returns-clause-steps c = reports_by_steps

pub returns-clause-said : goal.returns-clause-said
returns-clause-said c = reports_in_line

pub returns-clause-reported : goal.returns-clause-reported
returns-clause-reported c = is_reported

pub returns-clause-unknown : goal.returns-clause-unknown
returns-clause-unknown c = λ parts s names now name holds none. none_refused parts s names now (unknown_none parts names name holds none)

pub returns-clause-long : goal.returns-clause-long
returns-clause-long c = many_refused
