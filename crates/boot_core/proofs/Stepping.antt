-- The steps of a boot, as those of a program's call.
use Rattle.std.proofs.Common.{◌≡◌, ◌≢◌, ◌≤◌, ℕ, List, [], ◌∷◌, ◌++◌, length, take, refl, sym, ap, ◌∙◌}
use Rattle.std.proofs.lemmas.List.{take-append-le}
use Rattle.crash_base.specs.declared.numbers.ComponentNo.{ComponentNo}
use Rattle.crash_base.specs.declared.rows.RowWrite.{RowWrite}
use Rattle.journal_model.specs.declared.entry.Entry.{Entry}
use Rattle.journal_model.specs.Calls.{Call}
use Rattle.journal_model.specs.Rows.{rows_after}
use Rattle.journal_model.specs.Snapshots.{snapshot}
use Rattle.call_ticket.specs.declared.next.Answer.{Answer}
use Rattle.call_ticket.specs.declared.next.Answer.TheVariants as answer
use Rattle.call_ticket.specs.declared.next.Next.{Next}
use Rattle.call_ticket.specs.declared.next.Next.TheVariants as next
use Rattle.call_ticket.specs.Following.{MakesStep}
use Rattle.boot_core.specs.Boot.{BootValue, HasGrown}
use Rattle.boot_core.specs.declared.boot.Start.{Start}

-- a step but an enter has one answer, and leaves one call
pub one_step : (rows : List RowWrite) (call after other : Call) (step : Next) (a b : Answer) → ((x : ComponentNo) (m : ℕ) → step ≢ next.Enter x m) → MakesStep rows call step a after → MakesStep rows call step b other → (a ≡ b) × (after ≡ other)
one_step rows call after other (next.Enter x m) a b no_enter made again = absurd (no_enter x m refl)
one_step rows call after other (next.Read id) a b no_enter made again = (made.0 ∙ sym again.0, made.1 ∙ sym again.1)
one_step rows call after other (next.List t) a b no_enter made again = (made.0 ∙ sym again.0, made.1 ∙ sym again.1)
one_step rows call after other (next.Put w) a b no_enter made again = (made.0 ∙ sym again.0, made.1 ∙ sym again.1)
one_step rows call after other next.Exit a b no_enter made again = (made.0 ∙ sym again.0, made.1 ∙ sym again.1)
one_step rows call after other (next.Done d) a b no_enter made again = absurd made

-- an enter opens one frame
pub one_enter : (rows : List RowWrite) (call after : Call) (x : ComponentNo) (m : ℕ) (a : Answer) → MakesStep rows call (next.Enter x m) a after → (a ≡ answer.Entered) × (after.frames ≡ call.frames ++ x ∷ []) × (after.marks ≡ call.marks) × (after.writes ≡ call.writes)
one_enter rows call after x m a made =
    (made.0, ap (λ (c : Call). c.frames) made.1.2, ap (λ (c : Call). c.marks) made.1.2, ap (λ (c : Call). c.writes) made.1.2)

-- the rows at a place stay while a boot grows
pub rows_stay : (old new : BootValue) (at : ℕ) → HasGrown old new → at ≤ length old.entries → snapshot new.start.base new.entries at ≡ snapshot old.start.base old.entries at
rows_stay old new at grown within =
    ap (λ (start : Start). rows_after start.base (take at new.entries)) grown.start
    ∙ ap (λ (es : List Entry). rows_after old.start.base (take at es)) grown.entries
    ∙ ap (λ (es : List Entry). rows_after old.start.base es) (take-append-le at old.entries grown.more within)
