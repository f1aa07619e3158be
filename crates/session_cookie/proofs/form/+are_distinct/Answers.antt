use Rattle.std.proofs.Common.{arith}
use Rattle.std.proofs.lemmas.Grind.{common_steps}
use Rattle.session_cookie.proofs.form.+are_distinct.Goals as goal

pub returns-then-not-is_among : goal.returns-then-not-is_among
returns-then-not-is_among t c = grind (arith, common_steps)

pub returns-else-not-is_among : goal.returns-else-not-is_among
returns-else-not-is_among t c = grind (arith, common_steps)
