use Rattle.std.proofs.Common.{length, refl}
use Rattle.request_tries.proofs.Early.{commit_begun, committed_from, step_begun, step_from}
use Rattle.request_tries.proofs.laws.ends_begin_with_the_first_try.Goals as goal

pub returns-clause-stopped : goal.returns-clause-stopped
returns-clause-stopped c = λ old new asks s after e steps. step_from old new asks s after s.attempt e (length old.boot.entries) refl steps

pub returns-clause-committed : goal.returns-clause-committed
returns-clause-committed c = λ old new s after done e commits. committed_from old new s after s.attempt done e (length old.boot.entries) refl commits

pub returns-clause-stepped : goal.returns-clause-stepped
returns-clause-stepped c = λ old new asks s after to later steps goes. step_begun old new asks s after s.attempt to later refl steps goes

pub returns-clause-tried : goal.returns-clause-tried
returns-clause-tried c = λ old new s after done later commits. commit_begun old new s after s.attempt done later (length old.boot.entries) refl commits
