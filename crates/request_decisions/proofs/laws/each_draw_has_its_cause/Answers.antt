use Rattle.request_decisions.proofs.Counts.{all_drawn, draws_ascend, key_cause, other_causes, read_cause, request_cause, token_cause}
use Rattle.request_decisions.proofs.Shown.{forms_alone}
use Rattle.request_decisions.proofs.laws.each_draw_has_its_cause.Goals as goal

pub returns-clause-request : goal.returns-clause-request
returns-clause-request c = request_cause

pub returns-clause-token : goal.returns-clause-token
returns-clause-token c = token_cause

pub returns-clause-key : goal.returns-clause-key
returns-clause-key c = key_cause

pub returns-clause-read : goal.returns-clause-read
returns-clause-read c = read_cause

pub returns-clause-others : goal.returns-clause-others
returns-clause-others c = other_causes

pub returns-clause-order : goal.returns-clause-order
returns-clause-order c = draws_ascend

pub returns-clause-drawn : goal.returns-clause-drawn
returns-clause-drawn c = all_drawn

pub returns-clause-forms : goal.returns-clause-forms
returns-clause-forms c = forms_alone
