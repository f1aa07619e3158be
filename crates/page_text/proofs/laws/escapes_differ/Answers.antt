use Rattle.page_text.proofs.Reading.{escaped_same}
use Rattle.page_text.proofs.laws.escapes_differ.Goals as goal

pub returns : goal.returns
returns c = escaped_same
