use Rattle.std.proofs.Common.{refl}
use Rattle.auction_site.specs.Outcomes.{closed}
use Rattle.auction_actions.proofs.buying.closed.Goals as goal

pub returns : goal.returns
unfolding closed
returns c = rw (c.in_ok-writes.ensures, c.in_ok-done.ensures, c.after_close-item.ensures) refl
