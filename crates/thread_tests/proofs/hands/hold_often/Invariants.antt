use Rattle.thread_tests.specs.Hands.{IsHandOf}
use Rattle.thread_tests.proofs.hands.hold_often.Given as goal

abbrev pub invariant-loop : goal.invariant-loop
invariant-loop g l = IsHandOf l.shared 1 l.hand
