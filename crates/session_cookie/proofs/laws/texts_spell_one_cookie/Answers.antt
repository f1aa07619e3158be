use Rattle.session_cookie.proofs.Exactness.{one_cookie}
use Rattle.session_cookie.proofs.laws.texts_spell_one_cookie.Goals as goal

pub returns : goal.returns
returns c = one_cookie
