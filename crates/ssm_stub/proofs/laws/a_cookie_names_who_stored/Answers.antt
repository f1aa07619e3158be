use Rattle.std.proofs.Common.{Ok}
use Rattle.ssm_stub.specs.Hearing.{told_to}
use Rattle.ssm_stub.specs.Writes.{write_machine}
use Rattle.ssm_stub.proofs.WriteFacts.{told_facts}
use Rattle.ssm_stub.proofs.WriteOutcomes.{named}
use Rattle.ssm_stub.proofs.laws.a_cookie_names_who_stored.Goals as goal

pub returns : goal.returns
returns c = λ events bricks s cookie begins differ fitting answer.
    let facts = told_facts events bricks s (Ok cookie) begins differ fitting answer in
    named bricks s.least s.nonce s.key s.expiry (told_to write_machine s events) cookie facts.0 facts.1
