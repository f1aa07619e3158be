use Rattle.form_urlencoded.specs.Form.{raw_pairs}
use Rattle.form_values.specs.Values.{field_text}
use Rattle.form_values.proofs.Firsts.{first_found, found_first, none_found, none_named}
use Rattle.form_values.proofs.laws.first_pairs_count.Goals as goal

pub returns-clause-some : goal.returns-clause-some
unfolding field_text
returns-clause-some c = λ form name text. (found_first name text (raw_pairs form), first_found name text (raw_pairs form))

pub returns-clause-none : goal.returns-clause-none
unfolding field_text
returns-clause-none c = λ form name. (none_found name (raw_pairs form), none_named name (raw_pairs form))
