use Rattle.session_cookie.proofs.OneRequest.{reads_back}
use Rattle.session_cookie.proofs.laws.tokens_read_back.Goals as goal

pub returns : goal.returns
returns c = reads_back
