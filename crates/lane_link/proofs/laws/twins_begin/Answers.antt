use Rattle.lane_link.proofs.Beginning.{read_begins, write_begins}
use Rattle.lane_link.proofs.laws.twins_begin.Goals as goal

pub returns-clause-read : goal.returns-clause-read
returns-clause-read c = read_begins

pub returns-clause-write : goal.returns-clause-write
returns-clause-write c = write_begins
