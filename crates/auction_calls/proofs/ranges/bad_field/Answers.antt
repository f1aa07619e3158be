use Rattle.auction_calls.proofs.FirstBad.{bad_matches}
use Rattle.auction_calls.proofs.ranges.bad_field.Goals as goal

pub returns-clause-exact : goal.returns-clause-exact
returns-clause-exact c = bad_matches c.args.call.now c.first_bad.result c.call_is_sized.ensures c.first_bad.ensures
