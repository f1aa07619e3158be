use Rattle.auction_site.proofs.Reaching.{call_stays}
use Rattle.auction_site.proofs.shop_laws.actions_stay_within_their_reach.Goals as goal

pub returns : goal.returns
returns c = call_stays
