-- The run of a program over rows.
use Rattle.std.specs.Prelude.{◌≡◌, ℕ, zero, suc, ◌+◌, ◌-◌, ◌==◌, ◌&&◌, nat_lt, nat_le, not, Bool, true, if◌then◌else◌, List, [], ◌∷◌, ◌++◌, length, take, Option, Some, None}
use Rattle.crash_base.specs.declared.numbers.ComponentNo.{ComponentNo}
use Rattle.crash_base.specs.declared.row_id.RowId.{RowId}
use Rattle.crash_base.specs.declared.row_id.TheConstants.{SERVICE_TABLE}
use Rattle.crash_base.specs.declared.rows.RowWrite.{RowWrite}
use Rattle.crash_base.specs.declared.rows.TheConstants.{MAX_ROW_BYTES}
use Rattle.crash_base.specs.Rows.{row_in}
use Rattle.deployment.specs.declared.parts.Parts.{Parts}
use Rattle.journal_model.specs.declared.entry.CommitEntry.{CommitEntry}
use Rattle.journal_model.specs.declared.entry.DoneText.{DoneText}
use Rattle.journal_model.specs.declared.entry.Mark.{Mark}
use Rattle.journal_model.specs.declared.entry.ReadMark.TheVariants.{Row, Table}
use Rattle.journal_model.specs.Calls.{is_put, marked_with, with_write, seen, listed}
use Rattle.call_ticket.specs.declared.limits.TheConstants.{MAX_FRAMES, MAX_STEPS, MAX_MARKS, MAX_WRITES}
use Rattle.call_ticket.specs.declared.next.Answer.{Answer}
use Rattle.call_ticket.specs.declared.next.Answer.TheVariants as answer
use Rattle.call_ticket.specs.declared.next.Next.{Next}
use Rattle.call_ticket.specs.declared.next.Next.TheVariants as next
use Rattle.call_ticket.specs.Access.{last_frame, may_enter_from, is_inside}

-- A run between two steps: the answers so far, the components that are open, the last on top, how many rows and tables
-- were read and how many rows put, and what that leaves marked and written.
pub record Running : Type 0 where
  pub answers : List Answer
  pub frames : List ComponentNo
  pub reads : ℕ
  pub puts : ℕ
  pub marks : List Mark
  pub writes : List RowWrite

-- a run before its first step
abbrev pub not_run : Running
not_run = record { answers = []; frames = []; reads = 0; puts = 0; marks = []; writes = [] }

-- What a run gives: what it marked, the last put of each row in the order of the first ones, and its answer.
pub record Ran : Type 0 where
  pub marks : List Mark
  pub writes : List RowWrite
  pub done : DoneText

-- whether a row may be written: it is not of the service's own table, and has no more bytes than a row may have
abbrev pub is_write : RowWrite → Bool
is_write w = not (w.id.table == SERVICE_TABLE) && nat_le (length w.bytes) MAX_ROW_BYTES

-- Whether a step keeps the rules: what is entered is a component that may be entered from where the run is, what is
-- read, listed or put is of a table of the component that it is in, what is left is open, and no limit is passed.
abbrev pub keeps_rules : Parts → Running → Next → Bool
keeps_rules parts s (next.Enter c m) =
    (nat_lt c.0 (length parts.components) && may_enter_from parts (last_frame s.frames) c)
    && nat_lt (length s.frames) MAX_FRAMES
keeps_rules parts s (next.Read id) = is_inside parts s.frames id.table && nat_lt s.reads MAX_MARKS
keeps_rules parts s (next.List t) = is_inside parts s.frames t && nat_lt s.reads MAX_MARKS
keeps_rules parts s (next.Put w) =
    (is_inside parts s.frames w.id.table && is_write w) && nat_lt s.puts MAX_WRITES
keeps_rules parts s next.Exit = nat_lt 0 (length s.frames)
keeps_rules parts s (next.Done d) = true

-- the marks after a read of a row: an own put adds none
abbrev pub marks_after : List RowWrite → List RowWrite → RowId → List Mark → List Mark
marks_after rows writes id marks =
    if is_put writes id then marks else marked_with (Row id) (row_in rows id) marks

-- the run after a step over rows, with its answer
abbrev pub after_step : List RowWrite → Running → Next → Running
after_step rows s (next.Enter c m) = record s {
  answers = s.answers ++ answer.Entered ∷ [];
  frames = s.frames ++ c ∷ [];
}
after_step rows s (next.Read id) = record s {
  answers = s.answers ++ answer.Row (seen rows s.writes id) ∷ [];
  reads = s.reads + 1;
  marks = marks_after rows s.writes id s.marks;
}
after_step rows s (next.List t) = record s {
  answers = s.answers ++ answer.Rows (listed rows s.writes t) ∷ [];
  reads = s.reads + 1;
  marks = marked_with (Table t) None s.marks;
}
after_step rows s (next.Put w) = record s {
  answers = s.answers ++ answer.Kept ∷ [];
  puts = s.puts + 1;
  writes = with_write s.writes w;
}
after_step rows s next.Exit = record s {
  answers = s.answers ++ answer.Left ∷ [];
  frames = take (length s.frames - 1) s.frames;
}
after_step rows s (next.Done d) = s

-- A run goes on after a step that keeps the rules, and there is none where one breaks them. Done ends it.
abbrev pub resume : Parts → List RowWrite → Running → Next → (Running → Option Ran) → Option Ran
resume parts rows s (next.Done d) go =
    Some (record { marks = s.marks; writes = s.writes; done = d })
resume parts rows s x go = if keeps_rules parts s x then go (after_step rows s x) else None

-- what a run from here on gives, if it is done in fewer than so many steps
unfoldable pub run : ℕ → Parts → (List Answer → Next) → List RowWrite → Running → Option Ran
run zero parts asks rows s = None
run (suc n) parts asks rows s =
    resume parts rows s (asks s.answers) (λ after. run n parts asks rows after)

-- The run of a program over rows: what it gives if it is done within the steps of a call and keeps the rules.
unfoldable pub run_of : Parts → (List Answer → Next) → List RowWrite → Option Ran
run_of parts asks rows = run (MAX_STEPS + 1) parts asks rows not_run

-- A commit is what the program does over these rows, and answers this.
unfoldable pub Makes : Parts → (List Answer → Next) → List RowWrite → CommitEntry → DoneText → Type 0
Makes parts asks rows e done =
    run_of parts asks rows ≡ Some (record { marks = e.reads; writes = e.writes; done = done })
