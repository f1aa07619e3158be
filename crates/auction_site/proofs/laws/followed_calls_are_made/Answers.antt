use Rattle.auction_site.proofs.Meaning.{followed_is_made}
use Rattle.auction_site.proofs.laws.followed_calls_are_made.Goals as goal

pub returns : goal.returns
returns c = followed_is_made c.calls_follow.ensures.done
