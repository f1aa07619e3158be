use Rattle.action_plans.proofs.Walking.{walk_bind, walk_gives, out_has, out_come}
use Rattle.auction_site.specs.Planned.{sign_in_plan}
use Rattle.auction_actions.proofs.users.sign_in.Goals as goal

pub returns-in_err-found : goal.returns-in_err-found
unfolding sign_in_plan
returns-in_err-found c = simp (walk_bind, ← c.name_id.ensures) (out_come _ _ _ _ _ _ c.from_residual.ensures.1 c.in_err-found.ensures.come)

pub returns-in_err-refuses_if : goal.returns-in_err-refuses_if
unfolding sign_in_plan
returns-in_err-refuses_if c = simp (walk_bind, ← c.name_id.ensures, c.in_ok-found.ensures.come, ← c.has_other_name.ensures) (out_has _ _ _ _ _ _ c.from_residual-in_err-refuses_if.ensures.1 c.in_err-refuses_if.ensures.has)

pub returns-in_err-user : goal.returns-in_err-user
unfolding sign_in_plan
returns-in_err-user c = simp (walk_bind, ← c.name_id.ensures, c.in_ok-found.ensures.come, ← c.has_other_name.ensures, c.in_ok-refuses_if.ensures.has, walk_gives, ← c.user_id.ensures) (out_come _ _ _ _ _ _ c.from_residual-in_err-user.ensures.1 c.in_err-user.ensures.come)

pub returns-in_err-refuses_if-2 : goal.returns-in_err-refuses_if-2
unfolding sign_in_plan
returns-in_err-refuses_if-2 c = simp (walk_bind, ← c.name_id.ensures, c.in_ok-found.ensures.come, ← c.has_other_name.ensures, c.in_ok-refuses_if.ensures.has, walk_gives, ← c.user_id.ensures, c.in_ok-user.ensures.come, ← c.has_other_password.ensures) (out_has _ _ _ _ _ _ c.from_residual-in_err-refuses_if-2.ensures.1 c.in_err-refuses_if-2.ensures.has)

pub returns : goal.returns
unfolding sign_in_plan
returns c = simp (walk_bind, ← c.name_id.ensures, c.in_ok-found.ensures.come, ← c.has_other_name.ensures, c.in_ok-refuses_if.ensures.has, walk_gives, ← c.user_id.ensures, c.in_ok-user.ensures.come, ← c.has_other_password.ensures, c.in_ok-refuses_if-2.ensures.has, c.in_ok-outcome.ensures)
