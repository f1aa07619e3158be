use Rattle.descriptor_text.proofs.Exactness.{an_answer}
use Rattle.descriptor_text.proofs.laws.texts_have_an_answer.Goals as goal

pub returns : goal.returns
returns c = an_answer
