-- The rows that a keeper holds after a start.
use Rattle.container_core.proofs.Raising.{start_rows}
use Rattle.container_core.proofs.laws.keepers_hold_the_rows.Goals as goal

pub returns : goal.returns
returns c = start_rows
