use Rattle.journal_model.proofs.Ending.{can_come_up}
use Rattle.journal_model.proofs.reboot_laws.what_is_down_can_come_up.Goals as goal

pub returns : goal.returns
returns c = can_come_up
