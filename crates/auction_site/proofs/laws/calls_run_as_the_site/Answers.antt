use Rattle.auction_site.proofs.Meaning.{call_runs}
use Rattle.auction_site.proofs.laws.calls_run_as_the_site.Goals as goal

pub returns : goal.returns
returns c = call_runs
