-- When what a call read or writes was written since it began.
use Rattle.std.specs.Prelude.{◌≡◌, ℕ, ◌<◌, ◌≤◌, nat_lt, if◌then◌else◌, List, [], ◌∷◌, ◌++◌, map, Option, Some, None, All}
use Rattle.crash_base.specs.declared.rows.RowWrite.{RowWrite}
use Rattle.journal_model.specs.declared.conflict.Conflict.{Conflict}
use Rattle.journal_model.specs.declared.entry.Entry.{Entry}
use Rattle.journal_model.specs.declared.entry.Mark.{Mark}
use Rattle.journal_model.specs.declared.entry.ReadMark.{ReadMark}
use Rattle.journal_model.specs.declared.entry.ReadMark.TheVariants.{Row}
use Rattle.journal_model.specs.Calls.{Call}
use Rattle.journal_model.specs.Snapshots.{newest}

-- what a call rests on: what it read, in order, and then the rows that it writes
abbrev pub rests_on : Call → List ReadMark
rests_on call =
    map (λ (m : Mark). m.read) call.marks ++ map (λ (w : RowWrite). Row w.id) call.writes

-- the conflict of what was written after a place
abbrev pub conflict_at : List Entry → ℕ → ReadMark → Conflict
conflict_at es at read = record {
  mark = read;
  at = record { 0 = at };
  newest = record { 0 = newest es read };
}

-- the first conflict of these with what was written after a place, if there is one
abbrev pub conflict_in : List Entry → ℕ → List ReadMark → Option Conflict
conflict_in es at [] = None
conflict_in es at (read ∷ reads) =
    if nat_lt at (newest es read) then Some (conflict_at es at read) else conflict_in es at reads

-- the first conflict of a call, if it has one
abbrev pub conflict_of : List Entry → Call → Option Conflict
conflict_of es call = conflict_in es call.at.0 (rests_on call)

-- What is shown is the first of these that was written after the place.
pub record IsFirstNewer (es : List Entry) (at : ℕ) (reads : List ReadMark) (shown_conflict : Conflict) : Type 0 where
  pub before : List ReadMark
  pub read : ReadMark
  pub after : List ReadMark
  pub parts : reads ≡ before ++ read ∷ after
  pub older : All (λ r. newest es r ≤ at) before
  pub newer : at < newest es read
  pub shown : shown_conflict ≡ conflict_at es at read
