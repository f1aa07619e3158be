use Rattle.auction_site.proofs.Beginning.{none_coherent, commit_keeps}
use Rattle.auction_site.proofs.Coherence.{same_coherent, service_coherent}
use Rattle.auction_site.proofs.Keeping.{call_keeps}
use Rattle.auction_site.proofs.coherence_laws.actions_keep_rows_coherent.Goals as goal

pub returns-clause-empty : goal.returns-clause-empty
returns-clause-empty c = none_coherent

pub returns-clause-alike : goal.returns-clause-alike
returns-clause-alike c = same_coherent

pub returns-clause-service : goal.returns-clause-service
returns-clause-service c = service_coherent

pub returns-clause-action : goal.returns-clause-action
returns-clause-action c = call_keeps

pub returns-clause-entry : goal.returns-clause-entry
returns-clause-entry c = commit_keeps
