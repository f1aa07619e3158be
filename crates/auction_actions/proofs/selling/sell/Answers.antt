use Rattle.action_plans.proofs.Walking.{walk_bind, walk_gives, out_has, out_come}
use Rattle.auction_site.specs.Planned.{sell_plan}
use Rattle.auction_actions.proofs.selling.sell.Goals as goal

pub returns-in_err-refuses_if : goal.returns-in_err-refuses_if
unfolding sell_plan
returns-in_err-refuses_if c = simp walk_bind (out_has _ _ _ _ _ _ c.from_residual.ensures.1 c.in_err-refuses_if.ensures.has)

pub returns-in_err-refuses_if-2 : goal.returns-in_err-refuses_if-2
unfolding sell_plan
returns-in_err-refuses_if-2 c = simp (walk_bind, c.in_ok-refuses_if.ensures.has, walk_gives, ← c.sells_too_low.ensures) (out_has _ _ _ _ _ _ c.from_residual-in_err-refuses_if-2.ensures.1 c.in_err-refuses_if-2.ensures.has)

pub returns-in_err-asks_row_or : goal.returns-in_err-asks_row_or
unfolding sell_plan
returns-in_err-asks_row_or c = simp (walk_bind, c.in_ok-refuses_if.ensures.has, walk_gives, ← c.sells_too_low.ensures, c.in_ok-refuses_if-2.ensures.has, ← c.category_of-category.ensures) (out_come _ _ _ _ _ _ c.from_residual-in_err-asks_row_or.ensures.1 c.in_err-asks_row_or.ensures.come)

pub returns-in_err-items : goal.returns-in_err-items
unfolding sell_plan
returns-in_err-items c = simp (walk_bind, c.in_ok-refuses_if.ensures.has, walk_gives, ← c.sells_too_low.ensures, c.in_ok-refuses_if-2.ensures.has, ← c.category_of-category.ensures, c.in_ok-asks_row_or.ensures.come, ← c.items_counter.ensures) (out_come _ _ _ _ _ _ c.from_residual-in_err-items.ensures.1 c.in_err-items.ensures)

pub returns-in_err-refuses_if-3 : goal.returns-in_err-refuses_if-3
unfolding sell_plan
returns-in_err-refuses_if-3 c = simp (walk_bind, c.in_ok-refuses_if.ensures.has, walk_gives, ← c.sells_too_low.ensures, c.in_ok-refuses_if-2.ensures.has, ← c.category_of-category.ensures, c.in_ok-asks_row_or.ensures.come, ← c.items_counter.ensures, c.in_ok-items.ensures, ← c.is_last_number.ensures) (out_has _ _ _ _ _ _ c.from_residual-in_err-refuses_if-3.ensures.1 c.in_err-refuses_if-3.ensures.has)

pub returns : goal.returns
unfolding sell_plan
returns c = simp (walk_bind, c.in_ok-refuses_if.ensures.has, walk_gives, ← c.sells_too_low.ensures, c.in_ok-refuses_if-2.ensures.has, ← c.category_of-category.ensures, c.in_ok-asks_row_or.ensures.come, ← c.items_counter.ensures, c.in_ok-items.ensures, ← c.is_last_number.ensures, c.in_ok-refuses_if-3.ensures.has, ← c.next_number-item.ensures) c.offer_item.ensures
