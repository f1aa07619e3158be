use Rattle.std.proofs.Common.{refl}
use Rattle.request_tries.proofs.Once.{bears_number, few_conflict, few_revoked, few_served, rests_after}
use Rattle.request_tries.proofs.laws.requests_have_three_tries.Goals as goal

pub returns-clause-served : goal.returns-clause-served
returns-clause-served c = few_served

pub returns-clause-revoked : goal.returns-clause-revoked
returns-clause-revoked c = few_revoked

pub returns-clause-conflict : goal.returns-clause-conflict
returns-clause-conflict c = few_conflict

pub returns-clause-number : goal.returns-clause-number
returns-clause-number c = λ old new asks s after to steps goes bears. bears_number old new asks s after s.attempt to refl steps goes bears

pub returns-clause-next : goal.returns-clause-next
returns-clause-next c = λ old new s after done commits. rests_after old new s after s.attempt done commits
