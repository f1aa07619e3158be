-- A step that a call may make is refused only by a reboot.
use Rattle.std.proofs.Common.{◌≡◌, ℕ, ◌<◌, ◌==◌, Bool, true, false, cond, List, length, Option, None, refl}
use Rattle.crash_base.specs.declared.numbers.ComponentNo.{ComponentNo}
use Rattle.crash_base.specs.declared.row_id.RowId.{RowId}
use Rattle.crash_base.specs.declared.rows.RowWrite.{RowWrite}
use Rattle.crash_base.specs.Refusals.{only_if}
use Rattle.deployment.specs.declared.parts.Parts.{Parts}
use Rattle.journal_model.specs.declared.entry.Entry.{Entry}
use Rattle.journal_model.specs.declared.entry.ReadMark.{ReadMark}
use Rattle.journal_model.specs.declared.entry.ReadMark.TheVariants.{Row, Table}
use Rattle.journal_model.specs.Calls.{Call, is_put, is_marked}
use Rattle.journal_model.specs.Reboots.{down_of}
use Rattle.journal_model.specs.Stale.{stale_in}
use Rattle.call_ticket.specs.declared.limits.TheConstants.{MAX_FRAMES, MAX_STEPS, MAX_MARKS, MAX_WRITES}
use Rattle.call_ticket.specs.declared.next.Next.TheVariants as next
use Rattle.call_ticket.specs.Following.{MayMake}
use Rattle.boot_core.specs.declared.refusals.CallRefusal.TheVariants.{Reads, Writes}
use Rattle.boot_core.specs.Refusals.{barred, exit_refusal, reads_refusal, read_refusal, list_refusal, put_refusal}
use Rattle.boot_core.proofs.Revoking.{below_differs}

either : {R : Type 0} (b : Bool) (o : Option R) → o ≡ None → cond b None o ≡ None
either true o none = refl
either false o none = none

few_reads : (call : Call) (read : ReadMark) → length call.marks < MAX_MARKS → reads_refusal call read ≡ None
few_reads call read low = either (is_marked call.marks read) (only_if (length call.marks == MAX_MARKS) Reads) (rw (below_differs (length call.marks) MAX_MARKS low) refl)

pub enter_allowed : (parts : Parts) (es : List Entry) (call : Call) (c : ComponentNo) (m g : ℕ) → MayMake parts call (next.Enter c m) → stale_in es call.touched ≡ None → down_of es g ≡ None → barred es call g ≡ None
enter_allowed parts es call c m g may fresh up = rw (fresh, below_differs (length call.frames) MAX_FRAMES may.2, below_differs call.steps MAX_STEPS may.3, up) refl

pub read_allowed : (parts : Parts) (es : List Entry) (call : Call) (id : RowId) → MayMake parts call (next.Read id) → stale_in es call.touched ≡ None → read_refusal es call id ≡ None
read_allowed parts es call id may fresh =
    let none = either (is_put call.writes id) (reads_refusal call (Row id)) (few_reads call (Row id) may.2) in
    rw (fresh, below_differs call.steps MAX_STEPS may.1, none) refl

pub list_allowed : (parts : Parts) (es : List Entry) (call : Call) (t : ℕ) → MayMake parts call (next.List t) → stale_in es call.touched ≡ None → list_refusal es call t ≡ None
list_allowed parts es call t may fresh = rw (fresh, below_differs call.steps MAX_STEPS may.1, few_reads call (Table t) may.2) refl

pub put_allowed : (parts : Parts) (es : List Entry) (call : Call) (w : RowWrite) → MayMake parts call (next.Put w) → stale_in es call.touched ≡ None → put_refusal es call w.id ≡ None
put_allowed parts es call w may fresh =
    let full : only_if (length call.writes == MAX_WRITES) Writes ≡ None = rw (below_differs (length call.writes) MAX_WRITES may.3) refl in
    let none = either (is_put call.writes w.id) (only_if (length call.writes == MAX_WRITES) Writes) full in
    rw (fresh, below_differs call.steps MAX_STEPS may.2, none) refl

pub exit_allowed : (parts : Parts) (es : List Entry) (call : Call) → MayMake parts call next.Exit → stale_in es call.touched ≡ None → exit_refusal es call ≡ None
exit_allowed parts es call may fresh = rw (fresh, below_differs call.steps MAX_STEPS may.1) refl
