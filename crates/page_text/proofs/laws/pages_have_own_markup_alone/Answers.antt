use Rattle.page_text.proofs.Markup.{own_markup}
use Rattle.page_text.proofs.References.{page_reads}
use Rattle.page_text.proofs.laws.pages_have_own_markup_alone.Goals as goal

pub returns-clause-markup : goal.returns-clause-markup
returns-clause-markup c = own_markup

pub returns-clause-references : goal.returns-clause-references
returns-clause-references c = page_reads
