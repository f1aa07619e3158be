use Rattle.session_steps.proofs.Presented.{presented_ok, presented_notbase64, presented_form, presented_tag}
use Rattle.session_steps.proofs.laws.presented_texts_are_told_apart.Goals as goal

pub returns-clause-ok : goal.returns-clause-ok
returns-clause-ok c = presented_ok

pub returns-clause-notbase64 : goal.returns-clause-notbase64
returns-clause-notbase64 c = presented_notbase64

pub returns-clause-form : goal.returns-clause-form
returns-clause-form c = presented_form

pub returns-clause-tag : goal.returns-clause-tag
returns-clause-tag c = presented_tag
