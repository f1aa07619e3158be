use Rattle.seat_laws.proofs.Replying.{unasked-step}
use Rattle.seat_laws.proofs.fitting.replies_matter_where_handed.Goals as goal

pub returns : goal.returns
returns c = λ g keeps other seat w none. unasked-step keeps other g seat w none
