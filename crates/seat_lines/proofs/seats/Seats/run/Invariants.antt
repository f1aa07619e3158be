use Rattle.std.proofs.Common.{Some, string_bytes}
use Rattle.session_steps.specs.Lent.{put_back}
use Rattle.seat_lines.proofs.RunSteps.{Runs}
use Rattle.seat_lines.proofs.seats.Seats.run.Given as goal

abbrev pub invariant-loop-alloc : goal.invariant-loop-alloc
invariant-loop-alloc g l =
    Runs l.number l.fn.container (put_back l.fn.lent (Some l.fn.lending.lanes) l.fn.lending.serial) l.fn.self l.container (put_back l.lent (Some l.lending.lanes) l.lending.serial) l.self (string_bytes l.text) (Some l.lending.lanes)

abbrev pub decreases-loop-alloc : goal.decreases-loop-alloc
decreases-loop-alloc g l = l.left
