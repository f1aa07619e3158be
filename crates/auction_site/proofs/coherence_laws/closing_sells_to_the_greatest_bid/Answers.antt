use Rattle.auction_site.proofs.Closing.{closes_to_the_greatest, closes_without_a_bid}
use Rattle.auction_site.proofs.coherence_laws.closing_sells_to_the_greatest_bid.Goals as goal

pub returns-clause-sold : goal.returns-clause-sold
returns-clause-sold c = closes_to_the_greatest

pub returns-clause-unsold : goal.returns-clause-unsold
returns-clause-unsold c = closes_without_a_bid
