use Rattle.seat_lines.proofs.NoRuns.{absent_refused, bare_refused, past_refused}
use Rattle.seat_lines.proofs.OneSeat.{bytes_fed, input_ended, opens_fresh, others_stay, run_at_rest, still_alone, there_refused}
use Rattle.seat_lines.proofs.Taken.{opens_none, run_refused}
use Rattle.seat_lines.proofs.laws.lines_change_one_connection.Goals as goal

pub returns-clause-others : goal.returns-clause-others
returns-clause-others c = others_stay

pub returns-clause-still : goal.returns-clause-still
returns-clause-still c = still_alone

pub returns-clause-there : goal.returns-clause-there
returns-clause-there c = there_refused

pub returns-clause-beyond : goal.returns-clause-beyond
returns-clause-beyond c = opens_none

pub returns-clause-unable : goal.returns-clause-unable
returns-clause-unable c = run_refused

pub returns-clause-absent : goal.returns-clause-absent
returns-clause-absent c = absent_refused

pub returns-clause-past : goal.returns-clause-past
returns-clause-past c = past_refused

pub returns-clause-bare : goal.returns-clause-bare
returns-clause-bare c = bare_refused

pub returns-clause-opens : goal.returns-clause-opens
returns-clause-opens c = opens_fresh

pub returns-clause-fed : goal.returns-clause-fed
returns-clause-fed c = bytes_fed

pub returns-clause-ended : goal.returns-clause-ended
returns-clause-ended c = input_ended

pub returns-clause-rests : goal.returns-clause-rests
returns-clause-rests c = run_at_rest
