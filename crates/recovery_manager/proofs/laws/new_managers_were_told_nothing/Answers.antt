use Rattle.recovery_manager.proofs.Hearing.{stands_new}
use Rattle.recovery_manager.proofs.laws.new_managers_were_told_nothing.Goals as goal

pub returns : goal.returns
returns c = stands_new
