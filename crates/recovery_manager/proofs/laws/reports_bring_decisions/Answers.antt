use Rattle.recovery_manager.proofs.Blaming.{none_exactly, reboot_for_leader}
use Rattle.recovery_manager.proofs.laws.reports_bring_decisions.Goals as goal

pub returns-clause-none : goal.returns-clause-none
returns-clause-none c = none_exactly

pub returns-clause-reboot : goal.returns-clause-reboot
returns-clause-reboot c = reboot_for_leader
