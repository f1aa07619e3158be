use Rattle.descriptor_text.proofs.Firsts.{first_wrong}
use Rattle.descriptor_text.proofs.laws.wrong_fields_are_first.Goals as goal

pub returns : goal.returns
returns c = first_wrong
