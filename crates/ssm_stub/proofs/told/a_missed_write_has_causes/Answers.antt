use Rattle.std.proofs.Common.{Err}
use Rattle.ssm_stub.specs.declared.write_call.WriteRefusal.TheVariants.{Missed}
use Rattle.ssm_stub.specs.Hearing.{told_to}
use Rattle.ssm_stub.specs.Writes.{write_machine}
use Rattle.ssm_stub.proofs.WriteFacts.{told_facts}
use Rattle.ssm_stub.proofs.WriteOutcomes.{missed_told}
use Rattle.ssm_stub.proofs.told.a_missed_write_has_causes.Goals as goal

pub returns : goal.returns
returns c = λ events bricks s causes begins differ fitting answer.
    let facts = told_facts events bricks s (Err (Missed causes)) begins differ fitting answer in
    missed_told bricks s.least s.nonce s.key s.expiry (told_to write_machine s events) causes facts.0 facts.1
