use Rattle.std.proofs.Common.{◌≡◌}
use Rattle.serving_tests.proofs.bids.bid_often.Given as goal

abbrev pub invariant-loop-at : goal.invariant-loop-at
invariant-loop-at g l = l.visitor.shared.now ≡ l.fn.visitor.shared.now
