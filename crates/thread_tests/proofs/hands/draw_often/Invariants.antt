use Rattle.thread_tests.specs.Hands.{IsHandOf}
use Rattle.thread_tests.proofs.hands.draw_often.Given as goal

abbrev pub invariant-loop : goal.invariant-loop
invariant-loop l = IsHandOf l.shared 1 l.hand
