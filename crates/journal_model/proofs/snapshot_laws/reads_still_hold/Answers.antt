use Rattle.journal_model.proofs.Standing.{unwritten_since, current_reads}
use Rattle.journal_model.proofs.snapshot_laws.reads_still_hold.Goals as goal

pub returns-clause-unwritten : goal.returns-clause-unwritten
returns-clause-unwritten c = unwritten_since

pub returns-clause-current : goal.returns-clause-current
returns-clause-current c = current_reads
