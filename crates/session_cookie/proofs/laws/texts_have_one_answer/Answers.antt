use Rattle.session_cookie.proofs.Exactness.{one_answer}
use Rattle.session_cookie.proofs.laws.texts_have_one_answer.Goals as goal

pub returns : goal.returns
returns c = one_answer
