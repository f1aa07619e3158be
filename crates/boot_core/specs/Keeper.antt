-- What a commit leaves of the keeper.
use Rattle.std.specs.Prelude.{◌≡◌, ◌≢◌, ◌⊎◌, List, [], ◌∷◌, Option, Result, Ok, Err}
use Rattle.crash_base.specs.declared.numbers.Place.{Place}
use Rattle.crash_base.specs.declared.rows.RowWrite.{RowWrite}
use Rattle.outside.specs.declared.keeper.KeeperFault.TheVariants as faults
use Rattle.outside.specs.Keeper.{KeeperTold, applied, TellsRefusal}
use Rattle.boot_core.specs.declared.refusals.CommitRefusal.{CommitRefusal}
use Rattle.boot_core.specs.declared.refusals.CommitRefusal.TheVariants as commits
use Rattle.boot_core.specs.declared.refusals.Refused.{Refused}

-- what a keeper tells once it has kept these writes; without writes it is not called
abbrev pub kept_writes : List RowWrite → Option KeeperTold → Option KeeperTold
kept_writes [] told = told
kept_writes (w ∷ ws) told = applied (w ∷ ws) told

-- The keeper had no memory, or it failed.
abbrev pub IsOfKeeper : CommitRefusal → Type 0
IsOfKeeper commits.KeeperFailed = Unit {0}
IsOfKeeper commits.OutOfMemory = Unit {0}
IsOfKeeper (commits.Already place) = ⊥
IsOfKeeper (commits.Revoked s) = ⊥
IsOfKeeper (commits.Conflict c) = ⊥
IsOfKeeper (commits.JournalFull full) = ⊥

-- What a keeper tells after a refused commit. It was called only where it failed or had no memory, and only with
-- writes.
abbrev pub TellsCause : CommitRefusal → List RowWrite → Option KeeperTold → Option KeeperTold → Type 0
TellsCause commits.KeeperFailed writes old new = (writes ≢ []) × TellsRefusal faults.Failed old new
TellsCause commits.OutOfMemory writes old new =
    (new ≡ old) ⊎ ((writes ≢ []) × TellsRefusal faults.OutOfMemory old new)
TellsCause (commits.Already place) writes old new = new ≡ old
TellsCause (commits.Revoked s) writes old new = new ≡ old
TellsCause (commits.Conflict c) writes old new = new ≡ old
TellsCause (commits.JournalFull full) writes old new = new ≡ old

-- What a keeper tells after a commit: it has kept the writes of one that was answered with its place, all of them, and
-- none of one that was refused, or it tells nothing from then on.
abbrev pub TellsCommit : List RowWrite → Result Place Refused → Option KeeperTold → Option KeeperTold → Type 0
TellsCommit writes (Ok _) old new = new ≡ kept_writes writes old
TellsCommit writes (Err refused) old new = TellsCause refused.cause writes old new
