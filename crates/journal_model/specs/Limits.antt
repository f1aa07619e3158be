-- How full a journal is, and what limits it.
use Rattle.std.specs.Prelude.{ℕ, ◌+◌, ◌^◌, ◌≤◌, nat_le, nat_lt, ◌&&◌, not, Bool, false, if◌then◌else◌, List, [], ◌∷◌, length, sum_by, Option, Some, None}
use Rattle.std.specs.List.{list_any}
use Rattle.crash_base.specs.declared.rows.RowWrite.{RowWrite}
use Rattle.journal_model.specs.declared.entry.ActionEntry.{ActionEntry}
use Rattle.journal_model.specs.declared.entry.Entry.{Entry}
use Rattle.journal_model.specs.declared.entry.Entry.TheVariants.{Commit, Down, Up}
use Rattle.journal_model.specs.declared.entry.Mark.{Mark}
use Rattle.journal_model.specs.declared.entry.SessionChange.{SessionChange}
use Rattle.journal_model.specs.declared.entry.SessionChange.TheVariants.{Keep, Set}
use Rattle.journal_model.specs.declared.limits.FullAt.{FullAt}
use Rattle.journal_model.specs.declared.limits.JournalLimits.{JournalLimits}
use Rattle.journal_model.specs.Reboots.{is_up_of}

-- whether an entry is a Down whose Up is not among the entries after it
abbrev pub is_undone_down : Entry → List Entry → Bool
is_undone_down (Commit e) after = false
is_undone_down (Down s) after = not (list_any (is_up_of s) after)
is_undone_down (Up s) after = false

-- the number of Downs whose Up has not come
abbrev pub undone_downs : List Entry → ℕ
undone_downs [] = 0
undone_downs (e ∷ es) = (if is_undone_down e es then 1 else 0) + undone_downs es

-- the places that a journal takes: one for each entry, and one that is kept for each Up that has not come
abbrev pub places : List Entry → ℕ
places es = length es + undone_downs es

-- the bytes of a value, if there is one
abbrev pub value_bytes : Option (List ℕ) → ℕ
value_bytes None = 0
value_bytes (Some bytes) = length bytes

-- the bytes of the values that were read, and of the rows that are written
abbrev pub call_bytes : List Mark → List RowWrite → ℕ
call_bytes marks writes =
    sum_by (λ (m : Mark). value_bytes m.value) marks
    + sum_by (λ (w : RowWrite). length w.bytes) writes

-- the bytes of a session that is set
abbrev pub session_bytes : SessionChange → ℕ
session_bytes Keep = 0
session_bytes (Set value) = length value

-- the bytes of an action's text, of its page and of the session that it sets
abbrev pub action_bytes : Option ActionEntry → ℕ
action_bytes None = 0
action_bytes (Some action) =
    (length action.text + length action.done.page) + session_bytes action.done.session

-- the bytes that an entry counts for
abbrev pub entry_bytes : Entry → ℕ
entry_bytes (Commit e) = call_bytes e.reads e.writes + action_bytes e.action
entry_bytes (Down s) = 0
entry_bytes (Up s) = 0

-- the bytes of a journal
abbrev pub bytes_of : List Entry → ℕ
bytes_of es = sum_by entry_bytes es

-- A journal is within its limits: its places, and its bytes.
pub record IsWithin (limits : JournalLimits) (es : List Entry) : Type 0 where
  pub entries : places es ≤ limits.entries
  pub bytes : bytes_of es ≤ limits.bytes

-- a number of bytes, where a u64 holds it
abbrev pub counted : ℕ → Option ℕ
counted n = if nat_lt n (2 ^ 64) then Some n else None

-- how full a journal is
abbrev pub fullness : List Entry → FullAt
fullness es = record { entries = places es; bytes = bytes_of es }

-- How full a journal is where so many entries and bytes more would pass a limit.
abbrev pub full_for : JournalLimits → List Entry → ℕ → ℕ → Option FullAt
full_for limits es entries bytes =
    if nat_le (places es + entries) limits.entries && nat_le (bytes_of es + bytes) limits.bytes
    then None
    else Some (fullness es)
