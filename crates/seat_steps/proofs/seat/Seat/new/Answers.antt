use Rattle.std.proofs.Common.{subst, sym}
use Rattle.auction_site.specs.Actions.{steps_of}
use Rattle.lane_link.specs.Links.{LaneLinkMakes}
use Rattle.shepherd.specs.Going.{GoesOn}
use Rattle.seat_steps.specs.Going.{IsAccepted}
use Rattle.seat_steps.proofs.seat.Seat.new.Goals as goal

pub returns-clause-goes : goal.returns-clause-goes
returns-clause-goes c = λ container. record { goes_on = subst (GoesOn IsAccepted steps_of LaneLinkMakes container) (sym c.new.ensures) (c.connections_go_on.ensures.begins container) }
