use Rattle.std.proofs.Common.{Ok}
use Rattle.ssm_stub.specs.Ends.{bricks_of}
use Rattle.ssm_stub.proofs.Distinct.{passes-differ}
use Rattle.ssm_stub.proofs.WriteFacts.{write_facts}
use Rattle.ssm_stub.proofs.WriteOutcomes.{written}
use Rattle.ssm_stub.proofs.laws.written_cookies_name_who_stored.Goals as goal

pub returns : goal.returns
returns g c = λ old new before passes least nonce key value expiry cookie distinct ends.
    written g.L.Link.makes (bricks_of before) least nonce key expiry old new cookie (write_facts g.L.Link.makes (bricks_of before) least nonce key value expiry old new passes (Ok cookie) (passes-differ before distinct) ends)
