use Rattle.auction_site.proofs.Meaning.{call_comes}
use Rattle.auction_site.proofs.laws.plans_come_to_the_site.Goals as goal

pub returns : goal.returns
returns c = call_comes
