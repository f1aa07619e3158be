use Rattle.turn_laws.proofs.Placing.{rise_hold, stand_in_order, stand_within}
use Rattle.turn_laws.proofs.laws.places_rise.Goals as goal

pub returns-clause-none : goal.returns-clause-none
returns-clause-none g c = λ n. tt

pub returns-clause-hold : goal.returns-clause-hold
returns-clause-hold g c = rise_hold

pub returns-clause-rise : goal.returns-clause-rise
returns-clause-rise g c = stand_in_order

pub returns-clause-within : goal.returns-clause-within
returns-clause-within g c = stand_within
