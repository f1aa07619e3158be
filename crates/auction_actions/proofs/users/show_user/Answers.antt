use Rattle.action_plans.proofs.Walking.{walk_bind, walk_gives, out_come}
use Rattle.auction_site.specs.Planned.{show_user_plan}
use Rattle.auction_actions.proofs.users.show_user.Goals as goal

pub returns-in_err-user : goal.returns-in_err-user
unfolding show_user_plan
returns-in_err-user c = simp (walk_bind, ← c.user_id.ensures) (out_come _ _ _ _ _ _ c.from_residual.ensures.1 c.in_err-user.ensures.come)

pub returns : goal.returns
unfolding show_user_plan
returns c = simp (walk_bind, ← c.user_id.ensures, c.in_ok-user.ensures.come, walk_gives, c.in_ok-outcome.ensures)
