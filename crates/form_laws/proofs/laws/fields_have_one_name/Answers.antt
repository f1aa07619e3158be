use Rattle.form_laws.proofs.Shown.{alike}
use Rattle.form_laws.proofs.laws.fields_have_one_name.Goals as goal

pub returns : goal.returns
returns c = alike
