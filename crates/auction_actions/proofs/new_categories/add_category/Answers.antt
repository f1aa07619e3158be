use Rattle.action_plans.proofs.Walking.{walk_bind, walk_gives, out_has, out_come}
use Rattle.auction_site.specs.Planned.{add_category_plan}
use Rattle.auction_actions.proofs.new_categories.add_category.Goals as goal

pub returns-in_err-refuses_if : goal.returns-in_err-refuses_if
unfolding add_category_plan
returns-in_err-refuses_if c = simp walk_bind (out_has _ _ _ _ _ _ c.from_residual.ensures.1 c.in_err-refuses_if.ensures.has)

pub returns-in_err-refuses_if-2 : goal.returns-in_err-refuses_if-2
unfolding add_category_plan
returns-in_err-refuses_if-2 c = simp (walk_bind, c.in_ok-refuses_if.ensures.has, walk_gives, ← c.is_no_editor.ensures) (out_has _ _ _ _ _ _ c.from_residual-in_err-refuses_if-2.ensures.1 c.in_err-refuses_if-2.ensures.has)

pub returns-in_err-categories : goal.returns-in_err-categories
unfolding add_category_plan
returns-in_err-categories c = simp (walk_bind, c.in_ok-refuses_if.ensures.has, walk_gives, ← c.is_no_editor.ensures, c.in_ok-refuses_if-2.ensures.has, ← c.categories_counter.ensures) (out_come _ _ _ _ _ _ c.from_residual-in_err-categories.ensures.1 c.in_err-categories.ensures)

pub returns-in_err-refuses_if-3 : goal.returns-in_err-refuses_if-3
unfolding add_category_plan
returns-in_err-refuses_if-3 c = simp (walk_bind, c.in_ok-refuses_if.ensures.has, walk_gives, ← c.is_no_editor.ensures, c.in_ok-refuses_if-2.ensures.has, ← c.categories_counter.ensures, c.in_ok-categories.ensures, ← c.is_last_number.ensures) (out_has _ _ _ _ _ _ c.from_residual-in_err-refuses_if-3.ensures.1 c.in_err-refuses_if-3.ensures.has)

pub returns : goal.returns
unfolding add_category_plan
returns c = simp (walk_bind, c.in_ok-refuses_if.ensures.has, walk_gives, ← c.is_no_editor.ensures, c.in_ok-refuses_if-2.ensures.has, ← c.categories_counter.ensures, c.in_ok-categories.ensures, ← c.is_last_number.ensures, c.in_ok-refuses_if-3.ensures.has, c.in_ok-outcome.ensures)
