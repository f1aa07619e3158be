use Rattle.journal_model.proofs.Legality.{commits_unrebooted}
use Rattle.journal_model.proofs.reboot_laws.no_commit_after_a_reboot.Goals as goal

pub returns : goal.returns
returns c = commits_unrebooted
