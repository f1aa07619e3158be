use Rattle.shepherd.proofs.Telling.{failed, full, goes_on, told}
use Rattle.shepherd.proofs.reporting.failed_requests_are_reported.Goals as goal

pub returns-clause-failed : goal.returns-clause-failed
returns-clause-failed g c = λ s r. failed s.stage r

pub returns-clause-full : goal.returns-clause-full
returns-clause-full g c = λ s moment. full s.stage moment

pub returns-clause-goes_on : goal.returns-clause-goes_on
returns-clause-goes_on g c = goes_on

pub returns-clause-told : goal.returns-clause-told
returns-clause-told g c = told g.P.Program.asks
