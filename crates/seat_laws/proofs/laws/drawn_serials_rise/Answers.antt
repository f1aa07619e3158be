use Rattle.seat_laws.proofs.Drawing.{rise}
use Rattle.seat_laws.proofs.laws.drawn_serials_rise.Goals as goal

pub returns : goal.returns
returns c = rise
