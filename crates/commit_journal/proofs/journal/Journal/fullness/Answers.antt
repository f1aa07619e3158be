use Rattle.std.proofs.Common.{rules}
use Rattle.commit_journal.proofs.journal.Journal.fullness.Goals as goal

pub returns : goal.returns
returns c = search rules
