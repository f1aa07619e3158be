use Rattle.action_plans.proofs.Walking.{walk_bind, walk_gives, out_has, out_come}
use Rattle.auction_site.specs.Planned.{offer_plan}
use Rattle.auction_actions.proofs.selling.offer_item.Goals as goal

pub returns-in_err-entries : goal.returns-in_err-entries
unfolding offer_plan
returns-in_err-entries c = simp (walk_bind, ← c.entries_of.ensures) (out_come _ _ _ _ _ _ c.from_residual.ensures.1 c.in_err-entries.ensures)

pub returns-in_err-refuses_if : goal.returns-in_err-refuses_if
unfolding offer_plan
returns-in_err-refuses_if c = simp (walk_bind, ← c.entries_of.ensures, c.in_ok-entries.ensures, ← c.is_last_number.ensures) (out_has _ _ _ _ _ _ c.from_residual-in_err-refuses_if.ensures.1 c.in_err-refuses_if.ensures.has)

pub returns-in_err-user : goal.returns-in_err-user
unfolding offer_plan
returns-in_err-user c = simp (walk_bind, walk_gives, ← c.entries_of.ensures, c.in_ok-entries.ensures, ← c.is_last_number.ensures, c.in_ok-refuses_if.ensures.has, ← c.user_id.ensures) (out_come _ _ _ _ _ _ c.from_residual-in_err-user.ensures.1 c.in_err-user.ensures.come)

pub returns-in_err-refuses_if-2 : goal.returns-in_err-refuses_if-2
unfolding offer_plan
returns-in_err-refuses_if-2 c = simp (walk_bind, walk_gives, ← c.entries_of.ensures, c.in_ok-entries.ensures, ← c.is_last_number.ensures, c.in_ok-refuses_if.ensures.has, ← c.user_id.ensures, c.in_ok-user.ensures.come, ← c.has_last_item.ensures) (out_has _ _ _ _ _ _ c.from_residual-in_err-refuses_if-2.ensures.1 c.in_err-refuses_if-2.ensures.has)

pub returns : goal.returns
unfolding offer_plan
returns c = simp (walk_bind, walk_gives, ← c.entries_of.ensures, c.in_ok-entries.ensures, ← c.is_last_number.ensures, c.in_ok-refuses_if.ensures.has, ← c.user_id.ensures, c.in_ok-user.ensures.come, ← c.has_last_item.ensures, c.in_ok-refuses_if-2.ensures.has, c.in_ok-outcome.ensures, c.next_number-entry.ensures)
