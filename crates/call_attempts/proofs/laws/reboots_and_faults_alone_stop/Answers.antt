use Rattle.call_attempts.proofs.Stopping.{hung_is, raised_is, revoked_is, sentinel_is}
use Rattle.call_attempts.proofs.laws.reboots_and_faults_alone_stop.Goals as goal

pub returns-clause-revoked : goal.returns-clause-revoked
returns-clause-revoked c = revoked_is

pub returns-clause-sentinel : goal.returns-clause-sentinel
returns-clause-sentinel c = sentinel_is

pub returns-clause-hung : goal.returns-clause-hung
returns-clause-hung c = hung_is

pub returns-clause-raised : goal.returns-clause-raised
returns-clause-raised c = raised_is
