use Rattle.action_plans.proofs.Walking.{bind_gives, exit_part}
use Rattle.auction_site.specs.Planned.{category_link_plan}
use Rattle.auction_actions.proofs.listing.row_link.Goals as goal

pub returns-in_err-category : goal.returns-in_err-category
unfolding category_link_plan
returns-in_err-category c = rw (← c.as_slice.ensures, ← c.in_ok-found.ensures.exact) (exit_part _ _ _ _ c.from_residual-in_err-category.ensures.1 c.in_err-category.ensures.has)

pub returns : goal.returns
unfolding category_link_plan
returns c = rw (← c.as_slice.ensures, ← c.in_ok-found.ensures.exact, c.in_ok-link.ensures) (bind_gives _ _ _ c.in_ok-category.ensures.has)
