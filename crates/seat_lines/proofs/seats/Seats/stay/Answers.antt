use Rattle.seat_lines.proofs.Going.{going_meanwhile}
use Rattle.seat_lines.proofs.seats.Seats.stay.Goals as goal

pub returns : goal.returns
returns c = λ old new grown all. going_meanwhile old new (λ s goes. record { goes_on = c.connections_go_on.ensures.meanwhile old new s grown goes.goes_on }) c.args.self.now.seats all
