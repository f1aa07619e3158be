-- How an attempt that nothing stops comes to its end.
use Rattle.std.specs.Prelude.{IsSome}
use Rattle.std.proofs.Common.{◌≡◌, ◌⊎◌, ℕ, ◌+◌, ◌≤◌, List, [], ◌∷◌, length, Some, None, inl, inr, refl, ap, ◌∙◌, arith, length-append}
use Rattle.crash_base.specs.declared.fault_plans.FaultKind.TheVariants.{Raise, Hang}
use Rattle.crash_base.specs.declared.numbers.ComponentNo.{ComponentNo}
use Rattle.crash_base.specs.declared.rows.RowWrite.{RowWrite}
use Rattle.deployment.specs.declared.parts.Parts.{Parts}
use Rattle.deployment.specs.Groups.{group_of}
use Rattle.journal_model.specs.declared.entry.DoneText.{DoneText}
use Rattle.journal_model.specs.Calls.{Call}
use Rattle.journal_model.specs.Reboots.{down_of}
use Rattle.journal_model.specs.Stale.{stale_in}
use Rattle.call_ticket.specs.declared.limits.TheConstants.{MAX_STEPS}
use Rattle.call_ticket.specs.declared.next.Answer.{Answer}
use Rattle.call_ticket.specs.declared.next.Next.{Next}
use Rattle.call_ticket.specs.declared.next.Next.TheVariants as next
use Rattle.call_ticket.specs.Following.{Begins, Follows, GoesOn, MakesStep, MayMake}
use Rattle.call_ticket.specs.Runs.{run_of}
use Rattle.boot_core.specs.Boot.{BootValue}
use Rattle.boot_core.specs.Faults.{fault_of}
use Rattle.call_attempts.specs.Attempt.{AttemptValue, HasStepped, IsUnderWay, answer_to, rows_at_begin, wanted}
use Rattle.call_attempts.specs.Stops.{failure, stop_of}
use Rattle.call_attempts.specs.declared.attempt.Stepped.{Stepped}
use Rattle.call_attempts.specs.declared.attempt.Stepped.TheVariants.{Went, Done, Stopped}
use Rattle.call_attempts.specs.declared.stop.Stop.{Stop}
use Rattle.call_attempts.specs.declared.stop.Stop.TheVariants.{Revoked, Sentinel, Hung, Raised}
use Rattle.call_attempts.proofs.Stopping.{hung_is, raised_is, revoked_is, sentinel_is}

-- No group that a step enters is down, and no component that it enters fails.
abbrev pub EntersFreely : BootValue → Next → Type 0
EntersFreely b x =
    (c : ComponentNo) (m : ℕ) → x ≡ next.Enter c m → (down_of b.entries (group_of b.start.deployment c.0) ≡ None) × (failure c (fault_of b c) ≡ None)

-- A step is stopped by nothing, where no group that its call entered was rebooted since, none that it enters is down,
-- and no component that it enters fails.
pub nothing_stops : (b : BootValue) (call : Call) (x : Next) → stale_in b.entries call.touched ≡ None → EntersFreely b x → (stop : Stop) → stop_of b call x ≡ Some stop → ⊥
nothing_stops b call x fresh free (Revoked shown) is = let stale = (revoked_is b call x shown).0 is in cc
nothing_stops b call x fresh free (Sentinel group down) is =
    let met = (sentinel_is b call x group down).0 is in
    let enters = met.1 in
    let held = enters.4 in
    let up = (free enters.0 enters.1 enters.2).0 in
    cc
nothing_stops b call x fresh free (Hung c fault) is =
    let enters = ((hung_is b call x c fault).0 is).1 in
    let fails : failure c (Some (fault, Hang)) ≡ None = rw enters.3 at (free c enters.0 enters.1).1 in
    absurd (cc)
nothing_stops b call x fresh free (Raised c fault) is =
    let enters = ((raised_is b call x c fault).0 is).1 in
    let fails : failure c (Some (fault, Raise)) ≡ None = rw enters.3 at (free c enters.0 enters.1).1 in
    absurd (cc)

-- what a step comes to that nothing stops
abbrev pub GoesOnOrEnds : AttemptValue → Stepped → AttemptValue → Type 0
GoesOnOrEnds a came after =
    ((came ≡ Went) × (length after.answers ≡ length a.answers + 1)) ⊎ ((done : DoneText) × (came ≡ Done done))

pub goes_on : (boot : BootValue) (asks : List Answer → Next) (a after : AttemptValue) (came : Stepped) → stale_in boot.entries a.ticket.call.touched ≡ None → EntersFreely boot (wanted asks a)
    → HasStepped boot asks a came after → GoesOnOrEnds a came after
goes_on boot asks a after Went fresh free h =
    inl (refl, ap (λ (b : AttemptValue). length b.answers) h.2 ∙ length-append a.answers (answer_to (rows_at_begin boot a.ticket.call) a.ticket.call (wanted asks a) ∷ []))
goes_on boot asks a after (Done d) fresh free h = inr (d, refl)
goes_on boot asks a after (Stopped stop) fresh free h = absurd (nothing_stops boot a.ticket.call (wanted asks a) fresh free stop h.1)

-- each step is counted
one_more : (rows : List RowWrite) (call after : Call) (x : Next) (a : Answer) → MakesStep rows call x a after → after.steps ≡ call.steps + 1
one_more rows call after (next.Enter c m) a made = ap (λ (k : Call). k.steps) made.1.2
one_more rows call after (next.Read id) a made = ap (λ (k : Call). k.steps) made.1
one_more rows call after (next.List t) a made = ap (λ (k : Call). k.steps) made.1
one_more rows call after (next.Put w) a made = ap (λ (k : Call). k.steps) made.1
one_more rows call after next.Exit a made = ap (λ (k : Call). k.steps) made.1
one_more rows call after (next.Done d) a made = absurd made

-- and was answered
as_many : (asks : List Answer → Next) (rows : List RowWrite) (answers : List Answer) (call : Call) → Follows asks rows answers call → call.steps ≡ length answers
as_many asks rows answers call (Begins request worker at) = refl
as_many asks rows answers call (GoesOn before was after a follows made) =
    let one = one_more rows was after (asks before) a made in
    let so_far = as_many asks rows before was follows in
    omega (arith, one, so_far, length-append before (a ∷ []))

-- the law of the next step of a call that follows a program
abbrev pub StepLaw : Type 0
StepLaw = (parts : Parts) (asks : List Answer → Next) (rows : List RowWrite) (answers : List Answer) (call : Call)
    → IsSome (run_of parts asks rows) → Follows asks rows answers call → MayMake parts call (asks answers)

-- the only step that a call may make after all its steps is the end
ends : (parts : Parts) (call : Call) (x : Next) → MayMake parts call x → MAX_STEPS ≤ call.steps → (done : DoneText) × (x ≡ next.Done done)
ends parts call (next.Enter c m) may all = let few = may.3 in absurd (omega (arith, few, all))
ends parts call (next.Read id) may all = let few = may.1 in absurd (omega (arith, few, all))
ends parts call (next.List t) may all = let few = may.1 in absurd (omega (arith, few, all))
ends parts call (next.Put w) may all = let few = may.2 in absurd (omega (arith, few, all))
ends parts call next.Exit may all = let few = may.1 in absurd (omega (arith, few, all))
ends parts call (next.Done d) may all = (d, refl)

-- After 128 answers the program of an attempt is done.
pub done_at_last : (law : StepLaw) (boot : BootValue) (asks : List Answer → Next) (a : AttemptValue) → IsSome (run_of boot.start.deployment asks (rows_at_begin boot a.ticket.call)) → IsUnderWay boot asks a
    → 128 ≤ length a.answers → (done : DoneText) × (wanted asks a ≡ next.Done done)
done_at_last law boot asks a some way many =
    let each = as_many asks (rows_at_begin boot a.ticket.call) a.answers a.ticket.call way.follows in
    ends boot.start.deployment a.ticket.call (wanted asks a)
    (law boot.start.deployment asks (rows_at_begin boot a.ticket.call) a.answers a.ticket.call some way.follows) (omega (arith, each, many))
