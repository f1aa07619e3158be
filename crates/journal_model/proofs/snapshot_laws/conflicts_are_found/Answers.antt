use Rattle.journal_model.proofs.Conflicting.{first_newer, none_newer, newer_none}
use Rattle.journal_model.proofs.snapshot_laws.conflicts_are_found.Goals as goal

pub returns-clause-first : goal.returns-clause-first
returns-clause-first c = first_newer

pub returns-clause-none : goal.returns-clause-none
returns-clause-none c = λ es at reads. (none_newer es at reads, newer_none es at reads)
