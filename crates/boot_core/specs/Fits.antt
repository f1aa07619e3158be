-- What a live call meets in its boot.
use Rattle.std.specs.Prelude.{All}
use Rattle.journal_model.specs.Calls.{Call}
use Rattle.journal_model.specs.Fits.{Fits}
use Rattle.boot_core.specs.Boot.{BootValue}
use Rattle.boot_core.specs.Owners.{IsEntered, IsOwned}

-- The call fits the journal, it entered the group of each component that it is in, and each row that it writes is
-- of a table whose owner's group it entered.
pub record FitsIn (c : BootValue) (call : Call) : Type 0 where
  pub journal : Fits c.start.base c.entries call
  pub frames : All (IsEntered c.start.deployment call.touched) call.frames
  pub owned : All (IsOwned c.start.deployment call.touched) call.writes
