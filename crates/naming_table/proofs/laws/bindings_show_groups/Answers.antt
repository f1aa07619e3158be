use Rattle.naming_table.proofs.Showing.{binding_none, none_binding, binding_up, binding_down}
use Rattle.naming_table.proofs.laws.bindings_show_groups.Goals as goal

pub returns-clause-nobody : goal.returns-clause-nobody
returns-clause-nobody c = λ parts es name. (binding_none parts es name, none_binding parts es name)

pub returns-clause-up : goal.returns-clause-up
returns-clause-up c = binding_up

pub returns-clause-down : goal.returns-clause-down
returns-clause-down c = binding_down
