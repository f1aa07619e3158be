use Rattle.served_items.proofs.Shown.{failed, shown}
use Rattle.served_items.proofs.showing.pages_show_their_entries.Goals as goal

pub returns-clause-shown : goal.returns-clause-shown
returns-clause-shown c = shown

pub returns-clause-failed : goal.returns-clause-failed
returns-clause-failed c = failed
