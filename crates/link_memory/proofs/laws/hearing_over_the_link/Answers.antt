use Rattle.link_memory.proofs.Counting.{raises}
use Rattle.link_memory.proofs.HearingOn.{rule_over}
use Rattle.link_memory.proofs.Hearings.{heard_over}
use Rattle.link_memory.proofs.laws.hearing_over_the_link.Goals as goal

pub returns-clause-counts : goal.returns-clause-counts
returns-clause-counts c = λ more n fits. raises more n fits

pub returns-clause-put : goal.returns-clause-put
returns-clause-put c = λ lawful brick ask events outcome old new ran. heard_over lawful ask brick events outcome old new ran

pub returns-clause-get : goal.returns-clause-get
returns-clause-get c = λ lawful brick ask events outcome old new ran. heard_over lawful ask brick events outcome old new ran

pub returns-clause-put_by_rule : goal.returns-clause-put_by_rule
returns-clause-put_by_rule c = λ lawful brick ask events outcome old new ran. rule_over lawful ask brick events outcome old new ran

pub returns-clause-get_by_rule : goal.returns-clause-get_by_rule
returns-clause-get_by_rule c = λ lawful brick ask events outcome old new ran. rule_over lawful ask brick events outcome old new ran
