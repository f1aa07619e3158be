use Rattle.action_plans.proofs.Walking.{walk_bind, walk_gives, out_come}
use Rattle.auction_site.specs.Planned.{browse_plan}
use Rattle.auction_actions.proofs.browsing.browse.Goals as goal

pub returns-in_err-found : goal.returns-in_err-found
unfolding browse_plan
returns-in_err-found c = simp (walk_bind, ← c.category_id.ensures) (out_come _ _ _ _ _ _ c.from_residual.ensures.1 c.in_err-found.ensures.come)

pub returns-in_err-entries : goal.returns-in_err-entries
unfolding browse_plan
returns-in_err-entries c = simp (walk_bind, ← c.category_id.ensures, c.in_ok-found.ensures.come, ← c.category_counter.ensures) (out_come _ _ _ _ _ _ c.from_residual-in_err-entries.ensures.1 c.in_err-entries.ensures)

pub returns-in_err-links : goal.returns-in_err-links
unfolding browse_plan
returns-in_err-links c = simp (walk_bind, ← c.category_id.ensures, c.in_ok-found.ensures.come, ← c.category_counter.ensures, c.in_ok-entries.ensures, ← c.first_entry-first.ensures, ← c.entries_on.ensures) (out_come _ _ _ _ _ _ c.from_residual-in_err-links.ensures.1 c.in_err-links.ensures)

pub returns : goal.returns
unfolding browse_plan
returns c = simp (walk_bind, ← c.category_id.ensures, c.in_ok-found.ensures.come, ← c.category_counter.ensures, c.in_ok-entries.ensures, ← c.first_entry-first.ensures, ← c.entries_on.ensures, c.in_ok-links.ensures, walk_gives, c.in_ok-outcome.ensures)
