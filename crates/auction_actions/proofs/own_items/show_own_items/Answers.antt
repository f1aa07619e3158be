use Rattle.action_plans.proofs.Walking.{walk_bind, walk_gives, out_has, out_come}
use Rattle.auction_site.specs.Planned.{show_own_items_plan}
use Rattle.auction_actions.proofs.own_items.show_own_items.Goals as goal

pub returns-in_err-refuses_if : goal.returns-in_err-refuses_if
unfolding show_own_items_plan
returns-in_err-refuses_if c = simp walk_bind (out_has _ _ _ _ _ _ c.from_residual.ensures.1 c.in_err-refuses_if.ensures.has)

pub returns-in_err-user : goal.returns-in_err-user
unfolding show_own_items_plan
returns-in_err-user c = simp (walk_bind, c.in_ok-refuses_if.ensures.has, walk_gives, ← c.user_id.ensures) (out_come _ _ _ _ _ _ c.from_residual-in_err-user.ensures.1 c.in_err-user.ensures.come)

pub returns-in_err-links : goal.returns-in_err-links
unfolding show_own_items_plan
returns-in_err-links c = simp (walk_bind, c.in_ok-refuses_if.ensures.has, walk_gives, ← c.user_id.ensures, c.in_ok-user.ensures.come, ← c.shown_items-count.ensures) (out_come _ _ _ _ _ _ c.from_residual-in_err-links.ensures.1 c.in_err-links.ensures)

pub returns : goal.returns
unfolding show_own_items_plan
returns c = simp (walk_bind, c.in_ok-refuses_if.ensures.has, walk_gives, ← c.user_id.ensures, c.in_ok-user.ensures.come, ← c.shown_items-count.ensures, c.in_ok-links.ensures, c.in_ok-outcome.ensures)
