use Rattle.outcome_items.specs.Answers.{answer_of}
use Rattle.outcome_items.proofs.laws.heads_are_answered_as_gets_are.Goals as goal

pub returns : goal.returns
returns c = λ done cookie outcome close. c.heads_are_answered_as_gets.ensures (answer_of done cookie outcome) close
