-- Calls that follow a program.
use Rattle.std.specs.Prelude.{◌≡◌, ◌≢◌, ℕ, ◌<◌, true, List, [], ◌∷◌, ◌++◌, length}
use Rattle.crash_base.specs.declared.numbers.Place.{Place}
use Rattle.crash_base.specs.declared.numbers.RequestNo.{RequestNo}
use Rattle.crash_base.specs.declared.numbers.WorkerNo.{WorkerNo}
use Rattle.crash_base.specs.declared.rows.RowWrite.{RowWrite}
use Rattle.deployment.specs.declared.parts.Parts.{Parts}
use Rattle.journal_model.specs.declared.entry.Entry.{Entry}
use Rattle.journal_model.specs.Calls.{Call, begun, entered, left, kept, seen, listed, has_read, has_listed}
use Rattle.journal_model.specs.Fits.{IsWrite}
use Rattle.call_ticket.specs.declared.limits.TheConstants.{MAX_FRAMES, MAX_STEPS, MAX_MARKS, MAX_WRITES}
use Rattle.call_ticket.specs.declared.next.Answer.{Answer}
use Rattle.call_ticket.specs.declared.next.Answer.TheVariants as answer
use Rattle.call_ticket.specs.declared.next.Next.{Next}
use Rattle.call_ticket.specs.declared.next.Next.TheVariants as next
use Rattle.call_ticket.specs.Access.{may_enter, is_in_owner}

-- A call makes a step over rows, is answered, and is then the last one. An enter touches some group, in some journal.
abbrev pub MakesStep : List RowWrite → Call → Next → Answer → Call → Type 0
MakesStep rows call (next.Enter c m) a after =
    (a ≡ answer.Entered) × ((es : List Entry) × (g : ℕ) × (after ≡ entered es g c call))
MakesStep rows call (next.Read id) a after =
    (a ≡ answer.Row (seen rows call.writes id)) × (after ≡ has_read rows id call)
MakesStep rows call (next.List t) a after =
    (a ≡ answer.Rows (listed rows call.writes t)) × (after ≡ has_listed t call)
MakesStep rows call (next.Put w) a after = (a ≡ answer.Kept) × (after ≡ kept w call)
MakesStep rows call next.Exit a after = (a ≡ answer.Left) × (after ≡ left call)
MakesStep rows call (next.Done d) a after = ⊥

-- A call follows its program over rows, and had these answers: from its begin on it made just the steps that the
-- program asked for.
pub data Follows (asks : List Answer → Next) (rows : List RowWrite) : List Answer → Call → Type 0 where
  Begins : (request : RequestNo) (worker : WorkerNo) (at : Place) → Follows asks rows [] (begun request worker at)
  GoesOn : (answers : List Answer) (call after : Call) (a : Answer) → Follows asks rows answers call
      → MakesStep rows call (asks answers) a after → Follows asks rows (answers ++ a ∷ []) after

-- A call may make a step: it meets each condition of the step, and passes no limit by it.
abbrev pub MayMake : Parts → Call → Next → Type 0
MayMake parts call (next.Enter c m) =
    (c.0 < length parts.components) × (may_enter parts call c ≡ true)
    × (length call.frames < MAX_FRAMES) × (call.steps < MAX_STEPS)
MayMake parts call (next.Read id) =
    (is_in_owner parts call id.table ≡ true) × (call.steps < MAX_STEPS)
    × (length call.marks < MAX_MARKS)
MayMake parts call (next.List t) =
    (is_in_owner parts call t ≡ true) × (call.steps < MAX_STEPS) × (length call.marks < MAX_MARKS)
MayMake parts call (next.Put w) =
    (is_in_owner parts call w.id.table ≡ true) × IsWrite w × (call.steps < MAX_STEPS)
    × (length call.writes < MAX_WRITES)
MayMake parts call next.Exit = (call.frames ≢ []) × (call.steps < MAX_STEPS)
MayMake parts call (next.Done d) = Unit {0}
