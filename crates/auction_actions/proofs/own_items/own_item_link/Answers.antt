use Rattle.action_plans.proofs.Walking.{walk_bind, walk_gives, out_come}
use Rattle.auction_site.specs.Planned.{own_item_link_plan}
use Rattle.auction_actions.proofs.own_items.own_item_link.Goals as goal

pub returns-in_err-own : goal.returns-in_err-own
unfolding own_item_link_plan
returns-in_err-own c = simp (walk_bind, ← c.own_item_id.ensures) (out_come _ _ _ _ _ _ c.from_residual.ensures.1 c.in_err-own.ensures.come)

pub returns-in_err-item : goal.returns-in_err-item
unfolding own_item_link_plan
returns-in_err-item c = simp (walk_bind, ← c.own_item_id.ensures, c.in_ok-own.ensures.come, ← c.item_id.ensures) (out_come _ _ _ _ _ _ c.from_residual-in_err-item.ensures.1 c.in_err-item.ensures.come)

pub returns : goal.returns
unfolding own_item_link_plan
returns c = simp (walk_bind, ← c.own_item_id.ensures, c.in_ok-own.ensures.come, ← c.item_id.ensures, c.in_ok-item.ensures.come, walk_gives, c.in_ok-link.ensures)
