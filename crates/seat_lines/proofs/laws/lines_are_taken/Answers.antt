use Rattle.seat_lines.proofs.Taken.{bytes_taken, end_taken, is_near, opens_new, run_made, step_made}
use Rattle.seat_lines.proofs.laws.lines_are_taken.Goals as goal

pub returns-clause-opens : goal.returns-clause-opens
returns-clause-opens c = opens_new

pub returns-clause-fed : goal.returns-clause-fed
returns-clause-fed c = bytes_taken

pub returns-clause-ended : goal.returns-clause-ended
returns-clause-ended c = end_taken

pub returns-clause-made : goal.returns-clause-made
returns-clause-made c = λ s n keeps seat st near there bricks. step_made s n keeps seat st (is_near n near) there bricks

pub returns-clause-ran : goal.returns-clause-ran
returns-clause-ran c = run_made
