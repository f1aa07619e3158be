use Rattle.descriptor_text.proofs.Exactness.{one_answer}
use Rattle.descriptor_text.proofs.laws.texts_have_one_answer.Goals as goal

pub returns : goal.returns
returns c = one_answer
