use Rattle.ssm_stub.specs.Hearing.{ear_machine}
use Rattle.ssm_stub.specs.Reads.{read_machine}
use Rattle.ssm_stub.specs.Writes.{write_machine, write_until}
use Rattle.link_memory.proofs.OneEnd.{one_end}
use Rattle.link_memory.proofs.laws.runs_over_the_link_have_one_end.Goals as goal

pub returns-clause-write_until_answer : goal.returns-clause-write_until_answer
returns-clause-write_until_answer c = one_end write_until

pub returns-clause-write_to_the_end : goal.returns-clause-write_to_the_end
returns-clause-write_to_the_end c = one_end write_machine

pub returns-clause-read : goal.returns-clause-read
returns-clause-read c = one_end read_machine

pub returns-clause-put_hearing : goal.returns-clause-put_hearing
returns-clause-put_hearing c = λ brick lawful. one_end (ear_machine brick lawful)

pub returns-clause-get_hearing : goal.returns-clause-get_hearing
returns-clause-get_hearing c = λ brick lawful. one_end (ear_machine brick lawful)
