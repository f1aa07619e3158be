use Rattle.request_decisions.proofs.Forms.{form_reads, nothing_reads}
use Rattle.request_decisions.proofs.laws.forms_have_tokens_of_their_session.Goals as goal

pub returns-clause-shown : goal.returns-clause-shown
returns-clause-shown c = form_reads

pub returns-clause-none : goal.returns-clause-none
returns-clause-none c = nothing_reads
