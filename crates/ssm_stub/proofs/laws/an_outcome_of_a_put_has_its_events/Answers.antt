use Rattle.ssm_stub.proofs.HearingEnds.{heard_so, so_heard}
use Rattle.ssm_stub.proofs.laws.an_outcome_of_a_put_has_its_events.Goals as goal

pub returns-clause-comes : goal.returns-clause-comes
returns-clause-comes c = λ brick lawful events outcome fitting h. heard_so lawful brick events outcome fitting h

pub returns-clause-only : goal.returns-clause-only
returns-clause-only c = λ lawful events outcome h. so_heard lawful events outcome h
