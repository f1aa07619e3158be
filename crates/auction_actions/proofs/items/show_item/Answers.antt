use Rattle.action_plans.proofs.Walking.{walk_bind, walk_gives, out_come}
use Rattle.auction_site.specs.Planned.{show_item_plan}
use Rattle.auction_actions.proofs.items.show_item.Goals as goal

pub returns-in_err-item : goal.returns-in_err-item
unfolding show_item_plan
returns-in_err-item c = simp (walk_bind, ← c.item_id.ensures) (out_come _ _ _ _ _ _ c.from_residual.ensures.1 c.in_err-item.ensures.come)

pub returns-in_err-seller : goal.returns-in_err-seller
unfolding show_item_plan
returns-in_err-seller c = simp (walk_bind, ← c.item_id.ensures, c.in_ok-item.ensures.come, ← c.user_id.ensures) (out_come _ _ _ _ _ _ c.from_residual-in_err-seller.ensures.1 c.in_err-seller.ensures.come)

pub returns : goal.returns
unfolding show_item_plan
returns c = simp (walk_bind, ← c.item_id.ensures, c.in_ok-item.ensures.come, ← c.user_id.ensures, c.in_ok-seller.ensures.come, walk_gives, c.in_ok-outcome.ensures)
