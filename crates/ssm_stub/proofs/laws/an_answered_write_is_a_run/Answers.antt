use Rattle.ssm_stub.proofs.LinkTelling.{until-fits, until-calls}
use Rattle.ssm_stub.proofs.laws.an_answered_write_is_a_run.Goals as goal

pub returns-clause-fits : goal.returns-clause-fits
returns-clause-fits c = until-fits

pub returns-clause-calls : goal.returns-clause-calls
returns-clause-calls c = until-calls
