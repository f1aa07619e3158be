-- What the order of a journal means.
use Rattle.std.specs.Prelude.{◌≡◌, ℕ, ◌+◌, List, take, Some, All, slice_get}
use Rattle.crash_base.specs.declared.rows.RowWrite.{RowWrite}
use Rattle.crash_base.specs.Rows.{put_all}
use Rattle.journal_model.specs.declared.entry.CommitEntry.{CommitEntry}
use Rattle.journal_model.specs.declared.entry.Entry.{Entry}
use Rattle.journal_model.specs.declared.entry.Entry.TheVariants.{Commit}
use Rattle.journal_model.specs.declared.entry.Mark.{Mark}
use Rattle.journal_model.specs.Rows.{IsRead}
use Rattle.journal_model.specs.Snapshots.{snapshot, AgreeOn}

-- A commit at a place is as if its whole call had run there, alone: what it read, it would find just so in the rows
-- that the entries before it leave, and its writes are put over these.
pub record RunsThere (base : List RowWrite) (es : List Entry) (place : ℕ) (e : CommitEntry) : Type 0 where
  pub values : All (IsRead base (take place es)) e.reads
  pub same : All (λ (m : Mark). AgreeOn (snapshot base es e.at.0) (snapshot base es place) m.read) e.reads
  pub puts : snapshot base es (place + 1) ≡ put_all e.writes (snapshot base es place)

-- A journal is a serial execution: its calls, one after the other in its order.
pub record IsSerial (base : List RowWrite) (es : List Entry) : Type 0 where
  pub each : (place : ℕ) (e : CommitEntry) → slice_get es place ≡ Some (Commit e) → RunsThere base es place e
