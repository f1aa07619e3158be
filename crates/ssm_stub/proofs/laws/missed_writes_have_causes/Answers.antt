use Rattle.std.proofs.Common.{Err}
use Rattle.ssm_stub.specs.declared.write_call.WriteRefusal.TheVariants.{Missed}
use Rattle.ssm_stub.specs.Ends.{bricks_of}
use Rattle.ssm_stub.proofs.Distinct.{passes-differ}
use Rattle.ssm_stub.proofs.WriteFacts.{write_facts}
use Rattle.ssm_stub.proofs.WriteOutcomes.{missed}
use Rattle.ssm_stub.proofs.laws.missed_writes_have_causes.Goals as goal

pub returns : goal.returns
returns g c = λ old new before passes least nonce key value expiry causes distinct ends.
    missed g.L.Link.makes (bricks_of before) least nonce key expiry old new causes (write_facts g.L.Link.makes (bricks_of before) least nonce key value expiry old new passes (Err (Missed causes)) (passes-differ before distinct) ends)
