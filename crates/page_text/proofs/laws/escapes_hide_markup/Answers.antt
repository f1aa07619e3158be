use Rattle.page_text.proofs.Reading.{no_markup}
use Rattle.page_text.proofs.laws.escapes_hide_markup.Goals as goal

pub returns : goal.returns
returns c = no_markup
