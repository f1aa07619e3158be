use Rattle.std.proofs.Common.{Err}
use Rattle.ssm_stub.specs.declared.read_call.ReadRefusal.TheVariants.{Lost}
use Rattle.ssm_stub.proofs.Distinct.{holders-differ}
use Rattle.ssm_stub.proofs.ReadFacts.{read_facts}
use Rattle.ssm_stub.proofs.ReadOutcomes.{lost}
use Rattle.ssm_stub.proofs.laws.lost_reads_have_causes.Goals as goal

pub returns : goal.returns
returns g c = λ old new now nonce cookie causes holders ends.
    lost g.L.Link.makes now nonce cookie old new causes (read_facts g.L.Link.makes now nonce cookie old new (Err (Lost causes)) (holders-differ cookie.bricks holders.2) ends)
