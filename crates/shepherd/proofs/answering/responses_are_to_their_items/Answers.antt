use Rattle.shepherd.proofs.Responding.{respond}
use Rattle.shepherd.proofs.answering.responses_are_to_their_items.Goals as goal

pub returns : goal.returns
returns g c = λ key history heads written items s h. respond c.responses_are_of_their_items.ensures.item key history heads written items s h
