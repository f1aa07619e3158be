-- What the request of a seat has of the boot: its number, and the call of its open attempt.
use Rattle.std.specs.Prelude.{◌≡◌, ◌⊎◌, ℕ, true, Option, Some, None, IfSome, slice_get}
use Rattle.auction_calls.specs.Calls.{is_action}
use Rattle.auction_calls.specs.declared.action.ActionCall.{ActionCall}
use Rattle.auction_rows.specs.Parts.{site_parts}
use Rattle.auction_site.specs.Actions.{steps_of}
use Rattle.boot_core.specs.Boot.{BootValue, with_entered, with_entry}
use Rattle.boot_core.specs.Fits.{FitsIn}
use Rattle.boot_core.specs.Refusals.{commit_refusal}
use Rattle.call_attempts.specs.Attempt.{AttemptValue, IsUnderWay}
use Rattle.crash_base.specs.declared.numbers.ComponentNo.{ComponentNo}
use Rattle.crash_base.specs.declared.numbers.RequestNo.{RequestNo}
use Rattle.journal_model.specs.Calls.{Call, entry_of}
use Rattle.journal_model.specs.declared.entry.ActionEntry.{ActionEntry}
use Rattle.journal_model.specs.declared.entry.CommitEntry.{CommitEntry}
use Rattle.journal_model.specs.declared.entry.Entry.TheVariants.{Commit}
use Rattle.request_tries.specs.Serving.{TriesValue}
use Rattle.request_visit.specs.declared.visit.Work.{Work}
use Rattle.request_visit.specs.declared.visit.Work.TheVariants.{Reading, Opening, Serving as ServingBy, Committed, Decided, Answered, Left}
use Rattle.shepherd.specs.declared.shepherd.AskedCall.{AskedCall}
use Rattle.shepherd.specs.declared.shepherd.Stage.{Stage}
use Rattle.shepherd.specs.declared.shepherd.Stage.TheVariants.{Resting, Serving, Refusing, Over}
use Rattle.seat_steps.specs.declared.seat.Seat.{Seat}

-- A request asks for an action whose fields are in their ranges, and its number is of the boot.
pub record AsksInBoot (boot : BootValue) (asked : AskedCall) : Type 0 where
  pub action : is_action asked.call.action ≡ true
  pub own : asked.request.boot ≡ boot.start.boot

-- An open attempt of a call is under way in a boot, for the request of this number.
pub record IsOpenFor (boot : BootValue) (program : ActionCall) (request : RequestNo) (a : AttemptValue) : Type 0 where
  pub way : IsUnderWay boot (steps_of program) a
  pub request_is : a.ticket.call.request ≡ request

-- A request is served by a call whose action is in its ranges; its number is of the boot, and so is that of the call of
-- its open attempt, which is under way.
pub record ServesInBoot (boot : BootValue) (tries : TriesValue) (program : ActionCall) : Type 0 where
  pub action : is_action program.action ≡ true
  pub own : tries.request.boot ≡ boot.start.boot
  pub attempt : IfSome tries.attempt (IsOpenFor boot program tries.request)

-- this is so of the request of this work, where it is served
abbrev pub IfServed : (TriesValue → ActionCall → Type 0) → Work ActionCall → Type 0
IfServed So Reading = Unit {0}
IfServed So Opening = Unit {0}
IfServed So (ServingBy tries program) = So tries program
IfServed So (Committed place again shown) = Unit {0}
IfServed So (Decided became) = Unit {0}
IfServed So (Answered fate bytes) = Unit {0}
IfServed So (Left fate) = Unit {0}

-- The request that is open, if one is, asks so for what it asks for, and is served so where it is served.
abbrev pub AsksAndServes : (AskedCall → Type 0) → (TriesValue → ActionCall → Type 0) → Stage ActionCall → Type 0
AsksAndServes Asks Serves Resting = Unit {0}
AsksAndServes Asks Serves (Serving v call) = IfSome call Asks × IfServed Serves v.work
AsksAndServes Asks Serves (Refusing why bytes) = Unit {0}
AsksAndServes Asks Serves (Over end) = Unit {0}

-- a request of this work fits a boot, where it is served
abbrev pub WorksInBoot : BootValue → Work ActionCall → Type 0
WorksInBoot boot work = IfServed (ServesInBoot boot) work

-- the request that is open fits a boot, if one is, and so does what it asks for
abbrev pub StageFits : BootValue → Stage ActionCall → Type 0
StageFits boot stage = AsksAndServes (AsksInBoot boot) (ServesInBoot boot) stage

-- A seat fits a boot, which is of the site.
pub record SeatFits (boot : BootValue) (seat : Seat) : Type 0 where
  pub site : boot.start.deployment ≡ site_parts
  pub stage : StageFits boot seat.connection.stage

-- the open attempt of a request of this work, if one is open
abbrev pub attempt_by : Work ActionCall → Option AttemptValue
attempt_by Reading = None
attempt_by Opening = None
attempt_by (ServingBy tries program) = tries.attempt
attempt_by (Committed place again shown) = None
attempt_by (Decided became) = None
attempt_by (Answered fate bytes) = None
attempt_by (Left fate) = None

-- The open attempt of the request that is open, if one is.
abbrev pub attempt_open : Stage ActionCall → Option AttemptValue
attempt_open Resting = None
attempt_open (Serving v call) = attempt_by v.work
attempt_open (Refusing why bytes) = None
attempt_open (Over end) = None

-- A call fits a boot, and is of a request of it.
pub record IsOwnCall (boot : BootValue) (call : Call) : Type 0 where
  pub fits : FitsIn boot call
  pub own : call.request.boot ≡ boot.start.boot

-- A boot has one entry more: the commit of an action, which it does not refuse, of such a call.
pub record HasCommitted (old new : BootValue) : Type 0 where
  pub call : Call
  pub action : ActionEntry
  pub is_own : IsOwnCall old call
  pub unrefused : commit_refusal old.start.limits old.entries call (Some action) ≡ None
  pub added : new ≡ with_entry old (Commit (entry_of call (Some action)))

-- A boot is as it was, or counts that a component was entered once more.
abbrev pub EntersAtMost : BootValue → BootValue → Type 0
EntersAtMost old new = (new ≡ old) ⊎ ((component : ComponentNo) × (new ≡ with_entered old component))

-- A boot is as it was, or counts one entering more, or has one commit more.
abbrev pub CommitsAtMost : BootValue → BootValue → Type 0
CommitsAtMost old new = EntersAtMost old new ⊎ HasCommitted old new

-- Each commit of a boot is of a request of this boot.
abbrev pub CommitsAreOwn : BootValue → Type 0
CommitsAreOwn b = (place : ℕ) (e : CommitEntry) → slice_get b.entries place ≡ Some (Commit e) →
    e.request.boot ≡ b.start.boot
