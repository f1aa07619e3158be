-- What threads share in tests, and what one of them has.
use Rattle.std.specs.Prelude.{◌≡◌, ℕ, false}
use Rattle.thread_tests.specs.declared.hands.Hand.{Hand}
use Rattle.thread_tests.specs.declared.hands.Shared.{Shared}

-- The seats of a hand are of what is shared and have so many parts each, and the value is not out with them.
pub record IsHandOf (shared : Shared) (parts : ℕ) (hand : Hand) : Type 0 where
  pub lock : hand.lock.lock ≡ shared.lock.id
  pub home : hand.lock.holds ≡ false
  pub lock_parts : hand.lock.parts ≡ parts
  pub words : hand.words.words ≡ shared.words.id
  pub word_parts : hand.words.parts ≡ parts
