use Rattle.journal_model.proofs.Revoking.{first_stale, none_stale, stale_none, stale_lasts, stale_in-beside}
use Rattle.journal_model.proofs.reboot_laws.stale_calls_stay_stale.Goals as goal

pub returns-clause-first : goal.returns-clause-first
returns-clause-first c = first_stale

pub returns-clause-none : goal.returns-clause-none
returns-clause-none c = λ es touched. (none_stale es touched, stale_none es touched)

pub returns-clause-lasting : goal.returns-clause-lasting
returns-clause-lasting c = stale_lasts

pub returns-clause-beside : goal.returns-clause-beside
returns-clause-beside c = stale_in-beside
