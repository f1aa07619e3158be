use Rattle.action_plans.proofs.Walking.{walk_bind, walk_gives, out_come}
use Rattle.auction_site.specs.Planned.{entry_link_plan}
use Rattle.auction_actions.proofs.browsing.entry_link.Goals as goal

pub returns-in_err-entry : goal.returns-in_err-entry
unfolding entry_link_plan
returns-in_err-entry c = simp (walk_bind, ← c.entry_id.ensures) (out_come _ _ _ _ _ _ c.from_residual.ensures.1 c.in_err-entry.ensures.come)

pub returns-in_err-item : goal.returns-in_err-item
unfolding entry_link_plan
returns-in_err-item c = simp (walk_bind, ← c.entry_id.ensures, c.in_ok-entry.ensures.come, ← c.item_id.ensures) (out_come _ _ _ _ _ _ c.from_residual-in_err-item.ensures.1 c.in_err-item.ensures.come)

pub returns : goal.returns
unfolding entry_link_plan
returns c = simp (walk_bind, ← c.entry_id.ensures, c.in_ok-entry.ensures.come, ← c.item_id.ensures, c.in_ok-item.ensures.come, walk_gives, c.in_ok-link.ensures)
