use Rattle.action_plans.proofs.Walking.{walk_bind, walk_gives, out_has, out_come}
use Rattle.auction_site.specs.Planned.{give_feedback_plan}
use Rattle.auction_actions.proofs.feedback.give_feedback.Goals as goal

pub returns-in_err-refuses_if : goal.returns-in_err-refuses_if
unfolding give_feedback_plan
returns-in_err-refuses_if c = simp walk_bind (out_has _ _ _ _ _ _ c.from_residual.ensures.1 c.in_err-refuses_if.ensures.has)

pub returns-in_err-item : goal.returns-in_err-item
unfolding give_feedback_plan
returns-in_err-item c = simp (walk_bind, c.in_ok-refuses_if.ensures.has, walk_gives, ← c.item_id.ensures) (out_come _ _ _ _ _ _ c.from_residual-in_err-item.ensures.1 c.in_err-item.ensures.come)

pub returns-in_err-refuses_by : goal.returns-in_err-refuses_by
unfolding give_feedback_plan
returns-in_err-refuses_by c = simp (walk_bind, c.in_ok-refuses_if.ensures.has, walk_gives, ← c.item_id.ensures, c.in_ok-item.ensures.come, ← c.feedback_refusal.ensures) (out_has _ _ _ _ _ _ c.from_residual-in_err-refuses_by.ensures.1 c.in_err-refuses_by.ensures.has)

pub returns-in_err-about : goal.returns-in_err-about
unfolding give_feedback_plan
returns-in_err-about c = simp (walk_bind, c.in_ok-refuses_if.ensures.has, walk_gives, ← c.item_id.ensures, c.in_ok-item.ensures.come, ← c.feedback_refusal.ensures, c.in_ok-refuses_by.ensures.has, ← c.other_side.ensures, ← c.user_id.ensures) (out_come _ _ _ _ _ _ c.from_residual-in_err-about.ensures.1 c.in_err-about.ensures.come)

pub returns-in_err-refuses_if-2 : goal.returns-in_err-refuses_if-2
unfolding give_feedback_plan
returns-in_err-refuses_if-2 c = simp (walk_bind, c.in_ok-refuses_if.ensures.has, walk_gives, ← c.item_id.ensures, c.in_ok-item.ensures.come, ← c.feedback_refusal.ensures, c.in_ok-refuses_by.ensures.has, ← c.other_side.ensures, ← c.user_id.ensures, c.in_ok-about.ensures.come, ← c.has_last_feedback.ensures) (out_has _ _ _ _ _ _ c.from_residual-in_err-refuses_if-2.ensures.1 c.in_err-refuses_if-2.ensures.has)

pub returns : goal.returns
unfolding give_feedback_plan
returns c = simp (walk_bind, c.in_ok-refuses_if.ensures.has, walk_gives, ← c.item_id.ensures, c.in_ok-item.ensures.come, ← c.feedback_refusal.ensures, c.in_ok-refuses_by.ensures.has, ← c.other_side.ensures, ← c.user_id.ensures, c.in_ok-about.ensures.come, ← c.has_last_feedback.ensures, c.in_ok-refuses_if-2.ensures.has, c.in_ok-outcome.ensures)
