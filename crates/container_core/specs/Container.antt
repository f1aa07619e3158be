-- A container, as contracts see it.
use Rattle.std.specs.Prelude.{◌≡◌, ℕ, List, [], ◌∷◌, ◌++◌, length, ◌≤◌, Option, Result, Ok, Err, IfSome}
use Rattle.crash_base.specs.declared.numbers.Place.{Place}
use Rattle.journal_model.specs.declared.entry.ActionEntry.{ActionEntry}
use Rattle.journal_model.specs.declared.entry.Entry.{Entry}
use Rattle.journal_model.specs.declared.entry.Entry.TheVariants.{Commit}
use Rattle.journal_model.specs.Calls.{Call, entry_of}
use Rattle.journal_model.specs.Rows.{rows_after}
use Rattle.outside.specs.Keeper.{KeeperTold}
use Rattle.boot_core.specs.Boot.{BootValue, with_entry, HasGrown}
use Rattle.boot_core.specs.Keeper.{kept_writes, TellsCause}
use Rattle.boot_core.specs.declared.refusals.CommitRefusal.{CommitRefusal}
use Rattle.boot_core.specs.declared.refusals.CommitRefusal.TheVariants as commits
use Rattle.boot_core.specs.declared.refusals.Refused.{Refused}
use Rattle.container_core.specs.History.{AreLaid, stop_count}
use Rattle.container_core.specs.declared.history.Event.{Event}
use Rattle.container_core.specs.declared.history.Event.TheVariants.{Added, KeeperFailed, Started}
use Rattle.container_core.specs.declared.history.HistoryMark.{HistoryMark}

-- its boot, the events since its start, and what its keeper tells with how often that one has failed
pub record ContainerValue : Type 0 where
  pub boot : BootValue
  pub since : List Event
  pub told : Option KeeperTold
  pub faults : ℕ

-- its history: its start, and the events since
abbrev pub events_of : ContainerValue → List Event
events_of c = Started c.boot.start ∷ c.since

-- the number of its events
abbrev pub event_count : ContainerValue → ℕ
event_count c = length (events_of c)

-- a container with this boot
abbrev pub with_boot : ContainerValue → BootValue → ContainerValue
with_boot c boot = record c { boot = boot }

-- A container is as it was, but for how often its components were entered.
abbrev pub IsButEntered : ContainerValue → ContainerValue → Type 0
IsButEntered old new = new ≡ with_boot old (record (old.boot) { entered = new.boot.entered })

-- a container with one entry more in its journal and its history
abbrev pub with_entry_event : ContainerValue → Entry → ContainerValue
with_entry_event c e = record c { boot = with_entry c.boot e; since = c.since ++ Added e ∷ [] }

-- The keeper holds just the rows that the journal leaves, where it tells them.
abbrev pub HoldsRows : Option KeeperTold → BootValue → Type 0
HoldsRows told boot = IfSome told (λ t. t.rows ≡ rows_after boot.start.base boot.entries)

-- How the parts of a container agree: the marks are laid between the entries, at most one is of a stop, and the keeper
-- holds the rows.
pub record PartsAgree (boot : BootValue) (marks : List HistoryMark) (told : Option KeeperTold) : Type 0 where
  pub marked : AreLaid 0 marks (length boot.entries)
  pub stops : stop_count marks ≤ 1
  pub rows : HoldsRows told boot

-- A container has grown: it is the same, its journal begins with the one before, and so do its events.
pub record HasGrownBy (old new : ContainerValue) : Type 0 where
  pub boot : HasGrown old.boot new.boot
  pub more : List Event
  pub since : new.since ≡ old.since ++ more

-- What a refused commit leaves: the boot as it was, and its history too, but for the mark of a keeper that failed.
-- Where neither a keeper failed nor memory ran out, all else of the container is as it was.
abbrev pub RefusalLeaves : CommitRefusal → Call → ContainerValue → ContainerValue → Type 0
RefusalLeaves commits.KeeperFailed call old new =
    (new.boot ≡ old.boot) × (new.since ≡ old.since ++ KeeperFailed call.request ∷ [])
RefusalLeaves commits.OutOfMemory call old new = (new.boot ≡ old.boot) × (new.since ≡ old.since)
RefusalLeaves (commits.Already place) call old new = new ≡ old
RefusalLeaves (commits.Revoked s) call old new = new ≡ old
RefusalLeaves (commits.Conflict c) call old new = new ≡ old
RefusalLeaves (commits.JournalFull full) call old new = new ≡ old

-- What a commit leaves: the entry of the call, whose writes the keeper has kept; or no entry, a mark where the keeper
-- failed, and a keeper that tells what its refusal left where it was called.
abbrev pub CommitLeaves : Call → Option ActionEntry → Result Place Refused
    → ContainerValue → ContainerValue → Type 0
CommitLeaves call action (Ok place) old new =
    (place.0 ≡ length old.boot.entries) × (new ≡ record (with_entry_event old (Commit (entry_of call action))) {
      told = kept_writes call.writes old.told;
      faults = new.faults;
    })
CommitLeaves call action (Err refused) old new =
    RefusalLeaves refused.cause call old new
    × TellsCause refused.cause call.writes old.told new.told
