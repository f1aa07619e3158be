use Rattle.naming_table.specs.Names.{new_names}
use Rattle.naming_table.specs.Steps.{after_steps}
use Rattle.naming_table.proofs.Finding.{binding_now-names_of}
use Rattle.naming_table.proofs.Stepping.{bound-after_steps}
use Rattle.naming_table.proofs.laws.looks_follow_steps.Goals as goal

pub returns : goal.returns
returns c = λ parts steps name. binding_now-names_of (after_steps (new_names parts) steps) parts name (bound-after_steps (new_names parts) steps)
