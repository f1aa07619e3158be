use Rattle.std.proofs.Common.{◌≡◌}
use Rattle.seat_lines.specs.Giving.{given_back}
use Rattle.seat_lines.proofs.giving.give_back.Given as goal

abbrev pub invariant-loop-place : goal.invariant-loop-place
invariant-loop-place g l =
    (given_back l.place-iterator.rest.items l.lanes ≡ given_back l.fn.seats.items l.fn.lanes) × (l.container ≡ l.fn.container)
