use Rattle.seat_laws.proofs.Drawn.{begun-later, drew-meanwhile, drew-still, step-begun, step-drew}
use Rattle.seat_laws.proofs.lending.seats_begin_with_drawn_nonces.Goals as goal

pub returns-clause-begins : goal.returns-clause-begins
returns-clause-begins c = λ boot serial. record { owed = tt; held = tt }

pub returns-clause-step : goal.returns-clause-step
returns-clause-step c = step-drew

pub returns-clause-meanwhile : goal.returns-clause-meanwhile
returns-clause-meanwhile c = drew-meanwhile

pub returns-clause-still : goal.returns-clause-still
returns-clause-still c = drew-still

pub returns-clause-begun : goal.returns-clause-begun
returns-clause-begun c = step-begun

pub returns-clause-later : goal.returns-clause-later
returns-clause-later c = begun-later
