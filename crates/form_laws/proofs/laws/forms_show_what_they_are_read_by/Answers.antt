use Rattle.form_laws.proofs.Shown.{shown}
use Rattle.form_laws.proofs.laws.forms_show_what_they_are_read_by.Goals as goal

pub returns : goal.returns
returns c = shown
