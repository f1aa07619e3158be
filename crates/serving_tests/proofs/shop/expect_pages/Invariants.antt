use Rattle.std.proofs.Common.{◌≡◌}
use Rattle.serving_tests.proofs.shop.expect_pages.Given as goal

abbrev pub invariant-loop-wants : goal.invariant-loop-wants
invariant-loop-wants g l = l.visitor.shared.now ≡ l.fn.visitor.shared.now
