use Rattle.std.proofs.Common.{refl, []}
use Rattle.seat_lines.proofs.GivenUp.{gone_told, items_given}
use Rattle.seat_lines.proofs.Outs.{line_tells}
use Rattle.seat_lines.proofs.Saying.{outs_in_line}
use Rattle.seat_lines.proofs.laws.responses_are_put_out_in_order.Goals as goal

pub returns-clause-begins : goal.returns-clause-begins
returns-clause-begins c = λ n. record { responses = []; sent = []; outs_are = refl; each = refl; behind = (refl, refl) }

pub returns-clause-line : goal.returns-clause-line
returns-clause-line c = line_tells

pub returns-clause-gone : goal.returns-clause-gone
returns-clause-gone c = gone_told

pub returns-clause-given_up : goal.returns-clause-given_up
returns-clause-given_up c = items_given

pub returns-clause-outs : goal.returns-clause-outs
returns-clause-outs c = outs_in_line
