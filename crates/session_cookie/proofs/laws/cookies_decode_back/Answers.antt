use Rattle.session_cookie.proofs.Exactness.{decodes_back}
use Rattle.session_cookie.proofs.laws.cookies_decode_back.Goals as goal

pub returns : goal.returns
returns c = decodes_back
