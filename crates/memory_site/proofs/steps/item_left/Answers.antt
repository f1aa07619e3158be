use Rattle.memory_site.proofs.steps.item_left.Goals as goal

pub returns-then-has_item : goal.returns-then-has_item
returns-then-has_item c = (c.take_item.new.self.stage, c.take_item.ensures.stage)
