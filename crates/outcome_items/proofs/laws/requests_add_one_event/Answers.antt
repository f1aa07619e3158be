use Rattle.outcome_items.proofs.Adding.{again_adds, marks, one, outside_adds, own}
use Rattle.outcome_items.proofs.laws.requests_add_one_event.Goals as goal

pub returns-clause-one : goal.returns-clause-one
returns-clause-one c = λ es item. one es item.request item.outcome

pub returns-clause-again : goal.returns-clause-again
returns-clause-again c = λ es item e. again_adds es item.request item.outcome e

pub returns-clause-own : goal.returns-clause-own
returns-clause-own c = λ es item entry e. own es item.request item.outcome entry e

pub returns-clause-mark : goal.returns-clause-mark
returns-clause-mark c = λ es item request e. marks es item.request item.outcome request e

pub returns-clause-outside : goal.returns-clause-outside
returns-clause-outside c = λ es item e. outside_adds es item.request item.outcome e
