use Rattle.seat_laws.proofs.LentBricks.{serial-rises, serials-end, start-stays, step-lends}
use Rattle.seat_laws.proofs.lending.bricks_go_by_lent_steps.Goals as goal

pub returns-clause-store : goal.returns-clause-store
returns-clause-store c = step-lends

pub returns-clause-serials : goal.returns-clause-serials
returns-clause-serials c = serial-rises

pub returns-clause-boot : goal.returns-clause-boot
returns-clause-boot c = start-stays

pub returns-clause-end : goal.returns-clause-end
returns-clause-end c = λ limit g seat w end below. serials-end g seat w limit end below
