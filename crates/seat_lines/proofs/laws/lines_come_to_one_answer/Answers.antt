use Rattle.seat_lines.proofs.MoreReplies.{line_more}
use Rattle.seat_lines.proofs.laws.lines_come_to_one_answer.Goals as goal

pub returns : goal.returns
returns c = line_more
