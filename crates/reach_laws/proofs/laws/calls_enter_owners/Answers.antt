use Rattle.reach_laws.proofs.Entered.{enters_so, group_is_so}
use Rattle.reach_laws.proofs.laws.calls_enter_owners.Goals as goal

pub returns-clause-component : goal.returns-clause-component
returns-clause-component c = enters_so

pub returns-clause-group : goal.returns-clause-group
returns-clause-group c = group_is_so
