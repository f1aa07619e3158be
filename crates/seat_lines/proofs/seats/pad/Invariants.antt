use Rattle.std.proofs.Common.{◌≡◌, ◌+◌, ◌-◌, vec_len}
use Rattle.std.specs.Prelude.{All}
use Rattle.container_core.specs.Container.{ContainerValue}
use Rattle.seat_lines.specs.Site.{IsGoingIn, padded}
use Rattle.seat_lines.proofs.seats.pad.Given as goal

abbrev pub invariant-loop-seats : goal.invariant-loop-seats
invariant-loop-seats l =
    (padded l.seats.items l.number ≡ padded l.initial.seats.items l.number)
    × ((container : ContainerValue) → All (IsGoingIn container) l.initial.seats.items → All (IsGoingIn container) l.seats.items)

abbrev pub decreases-loop-seats : goal.decreases-loop-seats
decreases-loop-seats l = l.number + 1 - vec_len l.seats
