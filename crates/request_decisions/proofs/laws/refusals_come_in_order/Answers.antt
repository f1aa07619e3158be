use Rattle.request_decisions.proofs.Refusals.{bad_field, bad_token, not_allowed, nowhere, old_token, parts}
use Rattle.request_decisions.proofs.laws.refusals_come_in_order.Goals as goal

pub returns-clause-path : goal.returns-clause-path
returns-clause-path c = nowhere

pub returns-clause-method : goal.returns-clause-method
returns-clause-method c = not_allowed

pub returns-clause-parts : goal.returns-clause-parts
returns-clause-parts c = parts

pub returns-clause-fields : goal.returns-clause-fields
returns-clause-fields c = bad_field

pub returns-clause-token : goal.returns-clause-token
returns-clause-token c = bad_token

pub returns-clause-old : goal.returns-clause-old
returns-clause-old c = old_token
