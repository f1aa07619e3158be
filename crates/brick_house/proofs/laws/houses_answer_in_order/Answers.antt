use Rattle.brick_house.proofs.InOrder.{none_waits, come_in_order, heard_behind, no_silence_behind}
use Rattle.brick_house.proofs.laws.houses_answer_in_order.Goals as goal

pub returns : goal.returns
returns c = record { new = none_waits; events = come_in_order; heard = heard_behind; answered = no_silence_behind }
