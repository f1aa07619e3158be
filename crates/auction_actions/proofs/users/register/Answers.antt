use Rattle.action_plans.proofs.Walking.{walk_bind, walk_gives, out_has, out_come}
use Rattle.auction_site.specs.Planned.{register_plan}
use Rattle.auction_actions.proofs.users.register.Goals as goal

pub returns-in_err-asks_free_name : goal.returns-in_err-asks_free_name
unfolding register_plan
returns-in_err-asks_free_name c = simp walk_bind (out_come _ _ _ _ _ _ c.from_residual.ensures.1 c.in_err-asks_free_name.ensures)

pub returns-in_err-users : goal.returns-in_err-users
unfolding register_plan
returns-in_err-users c = simp (walk_bind, c.in_ok-asks_free_name.ensures, ← c.users_counter.ensures) (out_come _ _ _ _ _ _ c.from_residual-in_err-users.ensures.1 c.in_err-users.ensures)

pub returns-in_err-refuses_if : goal.returns-in_err-refuses_if
unfolding register_plan
returns-in_err-refuses_if c = simp (walk_bind, c.in_ok-asks_free_name.ensures, ← c.users_counter.ensures, c.in_ok-users.ensures, ← c.is_last_number.ensures) (out_has _ _ _ _ _ _ c.from_residual-in_err-refuses_if.ensures.1 c.in_err-refuses_if.ensures.has)

pub returns : goal.returns
unfolding register_plan
returns c = simp (walk_bind, c.in_ok-asks_free_name.ensures, ← c.users_counter.ensures, c.in_ok-users.ensures, ← c.is_last_number.ensures, c.in_ok-refuses_if.ensures.has, walk_gives, c.in_ok-outcome.ensures)
