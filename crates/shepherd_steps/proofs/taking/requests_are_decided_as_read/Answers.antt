use Rattle.shepherd_steps.proofs.Deciding.{decided-so}
use Rattle.shepherd_steps.proofs.taking.requests_are_decided_as_read.Goals as goal

pub returns : goal.returns
returns c = λ key readings boot head rightly. decided-so key readings rightly boot head
