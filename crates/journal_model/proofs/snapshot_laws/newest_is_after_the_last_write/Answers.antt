use Rattle.std.proofs.Common.{arith}
use Rattle.journal_model.proofs.Newest.{not_written_later, last_writes, newest_within_from}
use Rattle.journal_model.proofs.snapshot_laws.newest_is_after_the_last_write.Goals as goal

pub returns-clause-later : goal.returns-clause-later
returns-clause-later c = not_written_later

pub returns-clause-last : goal.returns-clause-last
returns-clause-last c = last_writes

pub returns-clause-within : goal.returns-clause-within
returns-clause-within c = λ es read. omega (arith, newest_within_from 0 es read)
