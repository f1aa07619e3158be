-- What stops a step of a call that keeps the rules of calls: a reboot, or a component that fails.
use Rattle.std.specs.Prelude.{ℕ, List, [], ◌∷◌, Option, Some, None, option_map}
use Rattle.crash_base.specs.declared.fault_plans.FaultKind.{FaultKind}
use Rattle.crash_base.specs.declared.fault_plans.FaultKind.TheVariants.{Raise, Hang, Leak}
use Rattle.crash_base.specs.declared.numbers.ComponentNo.{ComponentNo}
use Rattle.crash_base.specs.Refusals.{first_of}
use Rattle.deployment.specs.declared.parts.Parts.{Parts}
use Rattle.deployment.specs.Groups.{group_of, group_no}
use Rattle.journal_model.specs.declared.entry.Entry.{Entry}
use Rattle.journal_model.specs.declared.stale.Stale.{Stale}
use Rattle.journal_model.specs.Calls.{Call}
use Rattle.journal_model.specs.Reboots.{down_of}
use Rattle.journal_model.specs.Stale.{stale_in}
use Rattle.call_ticket.specs.declared.next.Next.{Next}
use Rattle.call_ticket.specs.declared.next.Next.TheVariants as next
use Rattle.boot_core.specs.Boot.{BootValue}
use Rattle.boot_core.specs.Faults.{fault_of}
use Rattle.boot_core.specs.declared.refusals.CallRefusal.{CallRefusal}
use Rattle.boot_core.specs.declared.refusals.CallRefusal.TheVariants as refusal
use Rattle.call_attempts.specs.declared.stop.Stop.{Stop}
use Rattle.call_attempts.specs.declared.stop.Stop.TheVariants.{Revoked, Sentinel, Hung, Raised}

-- a group that is down stops each enter of its components
abbrev pub down_stops : Parts → List Entry → Next → Option Stop
down_stops parts es (next.Enter c m) =
    option_map (λ place. Sentinel (group_no (group_of parts c.0)) place) (down_of es (group_of parts c.0))
down_stops parts es (next.Read id) = None
down_stops parts es (next.List t) = None
down_stops parts es (next.Put w) = None
down_stops parts es next.Exit = None
down_stops parts es (next.Done d) = None

-- a component that fails stops by its plan of this number and kind; one that leaks does not
abbrev pub failure : ComponentNo → Option (ℕ × FaultKind) → Option Stop
failure c None = None
failure c (Some (fault, Raise)) = Some (Raised c fault)
failure c (Some (fault, Hang)) = Some (Hung c fault)
failure c (Some (fault, Leak)) = None

-- a component that fails stops each enter of it
abbrev pub fault_stops : BootValue → Next → Option Stop
fault_stops b (next.Enter c m) = failure c (fault_of b c)
fault_stops b (next.Read id) = None
fault_stops b (next.List t) = None
fault_stops b (next.Put w) = None
fault_stops b next.Exit = None
fault_stops b (next.Done d) = None

-- What stops a step, if anything does: first a reboot of a group that the call entered, then that the group which it
-- enters is down, then that the component which it enters fails.
abbrev pub stop_of : BootValue → Call → Next → Option Stop
stop_of b call x =
    first_of (option_map (λ (s : Stale). Revoked s) (stale_in b.entries call.touched)
    ∷ down_stops b.start.deployment b.entries x
    ∷ fault_stops b x
    ∷ [])

-- the refusal of a step that is stopped
abbrev pub refusal_by : Stop → CallRefusal
refusal_by (Revoked s) = refusal.Revoked s
refusal_by (Sentinel group down) = refusal.Sentinel group down
refusal_by (Hung component fault) = refusal.Hung component fault
refusal_by (Raised component fault) = refusal.Raised component fault

-- A refusal tells what stops a step, or that memory ran out: no limit of a call.
abbrev pub StopsStep : CallRefusal → Type 0
StopsStep (refusal.Revoked s) = Unit {0}
StopsStep refusal.Depth = ⊥
StopsStep refusal.Steps = ⊥
StopsStep refusal.Reads = ⊥
StopsStep refusal.Writes = ⊥
StopsStep (refusal.Sentinel group down) = Unit {0}
StopsStep (refusal.Hung component fault) = Unit {0}
StopsStep (refusal.Raised component fault) = Unit {0}
StopsStep refusal.OutOfMemory = Unit {0}
