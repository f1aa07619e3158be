use Rattle.unhindered_requests.proofs.Admitted.{is_admitted}
use Rattle.unhindered_requests.proofs.laws.ordered_requests_are_admitted.Goals as goal

pub returns : goal.returns
returns g c = is_admitted g.R.Random.gives g.S.Serials.looks c.decisions_are_one.ensures
