use Rattle.std.proofs.Common.{rules}
use Rattle.session_cookie.proofs.form.has_sizes.Goals as goal

pub returns-then-count-le-MAX_HOLDERS : goal.returns-then-count-le-MAX_HOLDERS
returns-then-count-le-MAX_HOLDERS c = search rules
