use Rattle.std.proofs.Common.{Ok}
use Rattle.ssm_stub.specs.Hearing.{told_to}
use Rattle.ssm_stub.specs.Reads.{get_lawful, read_machine}
use Rattle.ssm_stub.proofs.ReadFacts.{read_told}
use Rattle.ssm_stub.proofs.ReadOutcomes.{found_of}
use Rattle.ssm_stub.proofs.told.a_read_value_was_found.Goals as goal

pub returns : goal.returns
returns c = λ events holders s value begins differ fitting answer.
    let facts = read_told events holders s (Ok value) begins differ fitting answer in
    found_of (get_lawful s.nonce s.key s.version s.expiry) (told_to read_machine s events) s.moment s.expiry holders value facts.fitting facts.in_order facts.answers
