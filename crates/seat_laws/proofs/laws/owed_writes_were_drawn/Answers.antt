use Rattle.seat_laws.proofs.Owing.{stands-begins, step-owes}
use Rattle.seat_laws.proofs.laws.owed_writes_were_drawn.Goals as goal

pub returns-clause-owed : goal.returns-clause-owed
returns-clause-owed c = step-owes

pub returns-clause-begins : goal.returns-clause-begins
returns-clause-begins c = stands-begins
