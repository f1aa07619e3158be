use Rattle.std.proofs.Common.{refl}
use Rattle.seat_lines.proofs.SeatSteps.{bare_steps, beyond_steps, goes_ended, left_by_seat, none_steps, silent_at, stays_at, waits_still}
use Rattle.seat_lines.proofs.laws.steps_are_those_of_seats.Goals as goal

pub returns-clause-step : goal.returns-clause-step
returns-clause-step c = λ s t n keeps text seat st there bricks moving is. left_by_seat s n keeps t text seat st there bricks moving is

pub returns-clause-waits : goal.returns-clause-waits
returns-clause-waits c = λ s t n keeps text seat there waiting is. waits_still s n keeps t text seat there waiting is

pub returns-clause-ended : goal.returns-clause-ended
returns-clause-ended c = λ s t n keeps text seat end there over is. goes_ended s n keeps t text seat end there over is

pub returns-clause-moving : goal.returns-clause-moving
returns-clause-moving c = stays_at

pub returns-clause-none : goal.returns-clause-none
returns-clause-none c = none_steps

pub returns-clause-beyond : goal.returns-clause-beyond
returns-clause-beyond c = beyond_steps

pub returns-clause-bare : goal.returns-clause-bare
returns-clause-bare c = bare_steps

pub returns-clause-settings : goal.returns-clause-settings
returns-clause-settings c = λ s n keeps. refl

pub returns-clause-world : goal.returns-clause-world
returns-clause-world c = λ s st. refl

pub returns-clause-output : goal.returns-clause-output
returns-clause-output c = λ n bytes. refl

pub returns-clause-silent : goal.returns-clause-silent
returns-clause-silent c = silent_at

pub returns-clause-first : goal.returns-clause-first
returns-clause-first c = λ parts. refl

pub returns-clause-boots : goal.returns-clause-boots
returns-clause-boots c = λ s. refl

pub returns-clause-numbers : goal.returns-clause-numbers
returns-clause-numbers c = (refl, refl)
