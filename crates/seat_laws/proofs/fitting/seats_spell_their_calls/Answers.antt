use Rattle.seat_laws.proofs.Ordering.{OrderLaws, order-laws}
use Rattle.seat_laws.proofs.SeatsSpell.{spells-still, step-spells}
use Rattle.seat_laws.proofs.fitting.seats_spell_their_calls.Goals as goal

pub returns-clause-begins : goal.returns-clause-begins
returns-clause-begins c = record { stage = tt }

pub returns-clause-step : goal.returns-clause-step
returns-clause-step c =
    let laws : OrderLaws = order-laws c.cookies_are_accepted_of_their_texts.ensures.cookie c.cookies_are_accepted_of_their_texts.ensures.none c.tokens_are_read_once.ensures.read
    c.requests_are_decided_as_read.ensures c.orders_are_in_range.ensures c.orders_are_exact.ensures in
    λ g seat w early its. step-spells laws g seat w early its

pub returns-clause-still : goal.returns-clause-still
returns-clause-still c = spells-still
