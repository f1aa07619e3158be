use Rattle.action_fields.proofs.FirstBad.{bad_is_first, good_is_read}
use Rattle.action_fields.proofs.laws.bad_fields_are_first.Goals as goal

pub returns-clause-some : goal.returns-clause-some
returns-clause-some c = bad_is_first

pub returns-clause-none : goal.returns-clause-none
returns-clause-none c = good_is_read
