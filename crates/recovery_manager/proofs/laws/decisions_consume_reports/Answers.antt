use Rattle.std.proofs.Common.{refl}
use Rattle.recovery_manager.specs.declared.decision.Decision.TheVariants.{None, Reboot}
use Rattle.recovery_manager.specs.Events.{Reported, JournalFilled}
use Rattle.recovery_manager.proofs.Keeping.{pending_more, pending_consumed, pending_full, acts_more, no_act_more}
use Rattle.recovery_manager.proofs.laws.decisions_consume_reports.Goals as goal

pub returns-clause-reboot : goal.returns-clause-reboot
returns-clause-reboot c = λ events report level. pending_consumed events (Reported report (Reboot level)) refl

pub returns-clause-none : goal.returns-clause-none
returns-clause-none c = λ events report. pending_more events (Reported report None) refl

pub returns-clause-full : goal.returns-clause-full
returns-clause-full c = pending_full

pub returns-clause-reboot_act : goal.returns-clause-reboot_act
returns-clause-reboot_act c = λ events report level. acts_more events (Reported report (Reboot level))

pub returns-clause-no_act : goal.returns-clause-no_act
returns-clause-no_act c = no_act_more

pub returns-clause-full_act : goal.returns-clause-full_act
returns-clause-full_act c = λ events moment. acts_more events (JournalFilled moment)
