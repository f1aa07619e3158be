use Rattle.journal_model.proofs.Serially.{legal_serial, commits_once}
use Rattle.journal_model.proofs.snapshot_laws.legal_journals_are_serial.Goals as goal

pub returns-clause-serial : goal.returns-clause-serial
returns-clause-serial c = legal_serial

pub returns-clause-once : goal.returns-clause-once
returns-clause-once c = commits_once
