use Rattle.seat_steps.proofs.giving_up.item_of.Goals as goal

pub returns-then-has_item : goal.returns-then-has_item
returns-then-has_item c = (c.take_item.new.self.stage, c.take_item.ensures.stage)
