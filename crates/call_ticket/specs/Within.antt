-- The limits of what a ticket holds, and its room.
use Rattle.std.specs.Prelude.{◌≡◌, ℕ, ◌≤◌, false, List, [], ◌∷◌, length, All}
use Rattle.crash_base.specs.declared.numbers.ComponentNo.{ComponentNo}
use Rattle.crash_base.specs.declared.rows.RowWrite.{RowWrite}
use Rattle.crash_base.specs.declared.rows.TheConstants.{MAX_ROW_BYTES}
use Rattle.journal_model.specs.declared.entry.Mark.{Mark}
use Rattle.journal_model.specs.declared.entry.Touch.{Touch}
use Rattle.journal_model.specs.Calls.{is_touched}
use Rattle.journal_model.specs.Limits.{value_bytes}
use Rattle.call_ticket.specs.declared.limits.TheConstants.{MAX_FRAMES, MAX_STEPS, MAX_MARKS, MAX_WRITES}

-- no two touches are of one group
abbrev pub AreOfOtherGroups : List Touch → Type 0
AreOfOtherGroups [] = Unit {0}
AreOfOtherGroups (t ∷ ts) = (is_touched ts t.group.0 ≡ false) × AreOfOtherGroups ts

-- a mark's value has no more bytes than a row may have
abbrev pub IsShortMark : Mark → Type 0
IsShortMark m = value_bytes m.value ≤ MAX_ROW_BYTES

-- a write has no more bytes than a row may have
abbrev pub IsShortWrite : RowWrite → Type 0
IsShortWrite w = length w.bytes ≤ MAX_ROW_BYTES

-- what a call holds is within its limits
pub record IsWithin (frames : List ComponentNo) (instances : List ℕ) (touched : List Touch)
    (marks : List Mark) (writes : List RowWrite) (steps : ℕ) : Type 0 where
  pub depth : length frames ≤ MAX_FRAMES
  pub served : length instances ≡ length frames
  pub touches : length touched ≤ steps
  pub groups : AreOfOtherGroups touched
  pub reads : length marks ≤ MAX_MARKS
  pub values : All IsShortMark marks
  pub puts : length writes ≤ MAX_WRITES
  pub rows : All IsShortWrite writes
  pub few : steps ≤ MAX_STEPS

-- how many items fit without memory, of each list of a ticket
pub record TicketRoom : Type 0 where
  pub frames : ℕ
  pub instances : ℕ
  pub touches : ℕ
  pub marks : ℕ
  pub writes : ℕ

-- there is room for all that a call may hold
pub record HasRoom (room : TicketRoom) : Type 0 where
  pub frames : MAX_FRAMES ≤ room.frames
  pub instances : MAX_FRAMES ≤ room.instances
  pub touches : MAX_STEPS ≤ room.touches
  pub marks : MAX_MARKS ≤ room.marks
  pub writes : MAX_WRITES ≤ room.writes
