use Rattle.auction_site.proofs.LowBids.{low_bids}
use Rattle.auction_site.proofs.TooLow.{answers_too_low}
use Rattle.auction_site.proofs.coherence_laws.low_bids_are_exact.Goals as goal

pub returns-clause-answer : goal.returns-clause-answer
returns-clause-answer c = λ call rows number amount.
    answers_too_low c.bid_refusals_are_exact.ensures.low c.running_is_exact.ensures rows call.user call.now.0 number amount

pub returns-clause-rule : goal.returns-clause-rule
returns-clause-rule c = low_bids
