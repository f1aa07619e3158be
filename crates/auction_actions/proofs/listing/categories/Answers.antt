use Rattle.action_plans.proofs.Walking.{walk_bind, walk_gives, out_has, out_come}
use Rattle.auction_site.specs.Planned.{categories_plan}
use Rattle.auction_actions.proofs.listing.categories.Goals as goal

pub returns-in_err-rows : goal.returns-in_err-rows
unfolding categories_plan
returns-in_err-rows c = simp walk_bind (out_come _ _ _ _ _ _ c.from_residual.ensures.1 c.in_err-rows.ensures)

pub returns-in_err-links : goal.returns-in_err-links
unfolding categories_plan
returns-in_err-links c = simp (walk_bind, c.in_ok-rows.ensures) (out_has _ _ _ _ _ _ c.from_residual-in_err-links.ensures.1 c.in_err-links.ensures)

pub returns : goal.returns
unfolding categories_plan
returns c = simp (walk_bind, c.in_ok-rows.ensures, c.in_ok-links.ensures, walk_gives, c.in_ok-outcome.ensures)
