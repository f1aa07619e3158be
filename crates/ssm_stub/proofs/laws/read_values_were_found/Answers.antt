use Rattle.std.proofs.Common.{Ok}
use Rattle.ssm_stub.proofs.Distinct.{holders-differ}
use Rattle.ssm_stub.proofs.ReadFacts.{read_facts}
use Rattle.ssm_stub.proofs.ReadOutcomes.{read_so}
use Rattle.ssm_stub.proofs.laws.read_values_were_found.Goals as goal

pub returns : goal.returns
returns g c = λ old new now nonce cookie value holders ends.
    read_so g.L.Link.makes now nonce cookie old new value (read_facts g.L.Link.makes now nonce cookie old new (Ok value) (holders-differ cookie.bricks holders.2) ends)
