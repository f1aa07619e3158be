use Rattle.ssm_stub.specs.Writes.{write_machine}
use Rattle.ssm_stub.specs.Reads.{read_machine}
use Rattle.ssm_stub.proofs.LinkTelling.{calls_tell}
use Rattle.ssm_stub.proofs.laws.calls_tell_each_its_own.Goals as goal

pub returns-clause-write : goal.returns-clause-write
returns-clause-write c = λ ask events s brick fitting. calls_tell write_machine ask brick events s fitting

pub returns-clause-read : goal.returns-clause-read
returns-clause-read c = λ ask events s brick fitting. calls_tell read_machine ask brick events s fitting
