use Rattle.std.proofs.Common.{[], refl}
use Rattle.lease_list.proofs.Names.{has_one, has_left, has_stayed, had_stood}
use Rattle.lease_list.proofs.laws.names_stand_until_they_leave.Goals as goal

pub returns-clause-stands : goal.returns-clause-stands
returns-clause-stands g c = λ nodes k p. (λ (xs, v, ys, is). (v, (xs, ys, is)), λ (v, (xs, ys, is)). (xs, v, ys, is))

pub returns-clause-pushed : goal.returns-clause-pushed
returns-clause-pushed g c = λ nodes k p v. (nodes, [], refl)

pub returns-clause-one : goal.returns-clause-one
returns-clause-one g c = has_one

pub returns-clause-had : goal.returns-clause-had
returns-clause-had g c = λ old new k p v leaves. (leaves.0, leaves.1, leaves.2)

pub returns-clause-left : goal.returns-clause-left
returns-clause-left g c = has_left

pub returns-clause-others : goal.returns-clause-others
returns-clause-others g c = λ old new k j p q v w leaves other. (has_stayed old new k j p q v w leaves other, had_stood old new k j p q v w leaves)
