use Rattle.std.proofs.Common.{◌≡◌, ℕ, List, ap, ◌∙◌, subst}
use Rattle.auction_calls.specs.declared.action.ActionCall.{ActionCall}
use Rattle.shepherd.specs.declared.shepherd.Stage.{Stage}
use Rattle.ssm_world.specs.Claims.{IsAcknowledged}
use Rattle.seat_steps.specs.Twinned.{way_in}
use Rattle.seat_laws.specs.Reads.{value_written}
use Rattle.seat_laws.specs.Serving.{history_in}
use Rattle.seat_laws.proofs.PagesWritten.{page-written}
use Rattle.seat_laws.proofs.serving.seats_write_what_their_pages_set.Goals as goal

pub returns : goal.returns
returns c = λ key boot since now course seat st cookie serves stands is.
    let it = page-written c.writes_follow_their_orders.ensures.sent _ _ boot.start (history_in boot since) serves.attributes.opened seat.connection.stage cookie serves.attributes.is_open is in
    let value : value_written (way_in seat.connection.stage) ≡ it.3.order.value = ap (λ (stage : Stage ActionCall). value_written (way_in stage)) it.2 ∙ it.3.asked in
    (it.0, it.1, it.2, it.3, subst (λ (x : List ℕ). IsAcknowledged st.world cookie x) value (c.seats_acknowledge_what_they_wrote.ensures seat st cookie stands is))
