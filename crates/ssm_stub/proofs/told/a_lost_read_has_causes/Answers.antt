use Rattle.std.proofs.Common.{Err}
use Rattle.ssm_stub.specs.declared.read_call.ReadRefusal.TheVariants.{Lost}
use Rattle.ssm_stub.specs.Hearing.{told_to}
use Rattle.ssm_stub.specs.Reads.{get_lawful, read_machine}
use Rattle.ssm_stub.proofs.ReadFacts.{read_told}
use Rattle.ssm_stub.proofs.ReadOutcomes.{lost_of}
use Rattle.ssm_stub.proofs.told.a_lost_read_has_causes.Goals as goal

pub returns : goal.returns
returns c = λ events holders s causes begins differ fitting answer.
    let facts = read_told events holders s (Err (Lost causes)) begins differ fitting answer in
    lost_of (get_lawful s.nonce s.key s.version s.expiry) (told_to read_machine s events) s.moment s.expiry holders causes facts.fitting facts.answers
