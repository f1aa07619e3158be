-- Which journals are legal.
use Rattle.std.specs.Prelude.{◌≡◌, ℕ, ◌<◌, ◌≤◌, List, length, take, true, Some, None, All, slice_get}
use Rattle.crash_base.specs.declared.scope.Scope.{Scope}
use Rattle.crash_base.specs.declared.scope.TheConstants.{MAX_GROUPS}
use Rattle.crash_base.specs.declared.rows.RowWrite.{RowWrite}
use Rattle.crash_base.specs.Scope.{holds}
use Rattle.journal_model.specs.declared.entry.CommitEntry.{CommitEntry}
use Rattle.journal_model.specs.declared.entry.Entry.{Entry}
use Rattle.journal_model.specs.declared.entry.Entry.TheVariants.{Commit, Down, Up}
use Rattle.journal_model.specs.declared.entry.Mark.{Mark}
use Rattle.journal_model.specs.declared.entry.ReadMark.TheVariants.{Row}
use Rattle.journal_model.specs.Fits.{IsWrite, AreApart}
use Rattle.journal_model.specs.Reboots.{IsUndone, down_of}
use Rattle.journal_model.specs.Requests.{commit_of}
use Rattle.journal_model.specs.Rows.{IsRead}
use Rattle.journal_model.specs.Snapshots.{newest}
use Rattle.journal_model.specs.Stale.{IsTouch, IsSince, IsLive}

-- A commit is whole: its rows may be written, and no two of them are one row.
pub record IsWhole (e : CommitEntry) : Type 0 where
  pub writes : All IsWrite e.writes
  pub apart : AreApart e.writes

-- A commit is current: its call began in these entries, what it read is what the rows had then, and neither what
-- it read nor a row that it writes was written since.
pub record IsCurrent (base : List RowWrite) (es : List Entry) (e : CommitEntry) : Type 0 where
  pub at : e.at.0 ≤ length es
  pub values : All (IsRead base (take e.at.0 es)) e.reads
  pub reads : All (λ (m : Mark). newest es m.read ≤ e.at.0) e.reads
  pub writes : All (λ (w : RowWrite). newest es (Row w.id) ≤ e.at.0) e.writes

-- A commit may come after these entries over this base: it is whole, its request has not committed yet, it is
-- current, it entered its groups in this journal since its begin, and each of them has been up since then.
pub record MayCommit (base : List RowWrite) (es : List Entry) (e : CommitEntry) : Type 0 where
  pub whole : IsWhole e
  pub once : commit_of es e.request ≡ None
  pub current : IsCurrent base es e
  pub touches : All (IsTouch es) e.touched
  pub since : All (IsSince e.at.0) e.touched
  pub live : All (IsLive es) e.touched

-- a reboot may begin after these entries: its scope holds a group, and every group that it holds is up
pub record MayBegin (es : List Entry) (s : Scope) : Type 0 where
  pub group : ℕ
  pub within : group < MAX_GROUPS
  pub holding : holds s group ≡ true
  pub up : (g : ℕ) → holds s g ≡ true → down_of es g ≡ None

-- a reboot may end after these entries: it began, and has not ended
pub record MayEnd (es : List Entry) (s : Scope) : Type 0 where
  pub place : ℕ
  pub undone : IsUndone es place s

-- an entry may come after these entries over this base
abbrev pub MayCome : List RowWrite → List Entry → Entry → Type 0
MayCome base es (Commit e) = MayCommit base es e
MayCome base es (Down s) = MayBegin es s
MayCome base es (Up s) = MayEnd es s

-- A journal is legal where each entry might come after those before it.
pub record IsLegal (base : List RowWrite) (es : List Entry) : Type 0 where
  pub each : (i : ℕ) (e : Entry) → slice_get es i ≡ Some e → MayCome base (take i es) e

-- a reboot may begin or end after these entries; a commit is none
abbrev pub MayReboot : List Entry → Entry → Type 0
MayReboot es (Commit e) = Unit {0}
MayReboot es (Down s) = MayBegin es s
MayReboot es (Up s) = MayEnd es s

-- Reboots are in turn: none begins in a group that is down, and none ends that has not begun or has ended.
pub record AreInTurn (es : List Entry) : Type 0 where
  pub each : (i : ℕ) (e : Entry) → slice_get es i ≡ Some e → MayReboot (take i es) e
