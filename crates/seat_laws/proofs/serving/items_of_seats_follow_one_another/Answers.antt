use Rattle.std.proofs.Common.{subst}
use Rattle.served_items.specs.Following.{FollowOn}
use Rattle.seat_laws.proofs.FollowingItems.{follows-next, items-follow}
use Rattle.seat_laws.proofs.serving.items_of_seats_follow_one_another.Goals as goal

pub returns-clause-begins : goal.returns-clause-begins
returns-clause-begins c = λ now behind. tt

pub returns-clause-step : goal.returns-clause-step
returns-clause-step c = λ g seat w old course drawn goes serves h. items-follow g seat w old course goes serves h

pub returns-clause-next : goal.returns-clause-next
returns-clause-next c = λ course before behind i next h is. follows-next (record { 0 = 0 }) before behind i next (subst (FollowOn (record { 0 = 0 })) is h)
