-- What lines about connections hand to the keeper, and what it tells then.
use Rattle.std.specs.Prelude.{◌≡◌, ◌⊎◌, ℕ, ◌≤◌, All, Bool, true, false, if◌then◌else◌, List, [], ◌∷◌, ◌++◌, Option, Some, None}
use Rattle.boot_core.specs.Boot.{BootValue}
use Rattle.container_core.specs.Container.{ContainerValue}
use Rattle.crash_base.specs.declared.numbers.Moment.{Moment}
use Rattle.crash_base.specs.declared.rows.RowWrite.{RowWrite}
use Rattle.outside.specs.Faults.{Rose}
use Rattle.outside.specs.Keeper.{KeeperTold, TellsRefusal}
use Rattle.outside.specs.declared.keeper.KeeperFault.TheVariants as faults
use Rattle.recovery_manager.specs.Kept.{ManagerValue}
use Rattle.request_tries.specs.Steps.{KeepsEvents}
use Rattle.scenario_text.specs.Answer.{Answer, Refused, Done}
use Rattle.scenario_text.specs.declared.seat_line.SeatLine.{SeatLine}
use Rattle.scenario_text.specs.declared.seat_line.SeatLine.TheVariants as lines
use Rattle.seat_steps.specs.Seats.{SeatWorld}
use Rattle.seat_steps.specs.Stepped.{seat_writes}
use Rattle.seat_steps.specs.declared.seat.Seat.{Seat}
use Rattle.shepherd.specs.Shepherds.{turn}
use Rattle.shepherd_steps.specs.Inside.{TellsReply}
use Rattle.seat_lines.specs.Lines.{Place, moves, place_step, step_line, worker_of}
use Rattle.seat_lines.specs.Making.{LineHearsSpelled, LineWasMade, PlaceHearsSpelled, StepHearsSpelled, StepMade, WasMade, WasStepped, run_makes}
use Rattle.seat_lines.specs.Runs.{can_run, rests, run_from, seat_line, steps_from}
use Rattle.seat_lines.specs.declared.lending.Lending.{Lending}
use Rattle.seat_lines.specs.Site.{SeatsState, SiteState, seat_at, site_in}
use Rattle.session_steps.specs.Sessions.{SessionsState}

-- Writes that were handed to the keeper, and whether it kept them.
pub record Handed : Type 0 where
  pub writes : List RowWrite
  pub keeps : Bool

-- one more reply of the keeper, where it was handed something
abbrev pub handed_first : List RowWrite → Bool → List Handed → List Handed
handed_first [] keeps more = more
handed_first (w ∷ ws) keeps more = record { writes = w ∷ ws; keeps = keeps } ∷ more

-- the writes that the step of a connection hands to the keeper, if it is there
abbrev pub writes_by : Option Seat → BootValue → List RowWrite
writes_by None boot = []
writes_by (Some seat) boot = seat_writes seat.connection boot

-- what a step hands to the keeper, where it replies so first: nothing, where the step is refused
abbrev pub step_hands : SiteState → ℕ → List Bool → List Handed
step_hands s n [] = []
step_hands s n (keeps ∷ more) = elim (step_line s n keeps) [
  | Refused ↦ []
  | Done t out ↦ handed_first (writes_by (seat_at s.seats.seats n) s.boot) keeps []
]

-- what a run hands to the keeper from here on, where it replies so to one step after the other
abbrev pub run_hands : SiteState → ℕ → List Bool → List Handed
run_hands s n [] = []
run_hands s n (keeps ∷ more) =
    if rests (seat_at s.seats.seats n) then [] else
    (elim (step_line s n keeps) [
      | Refused ↦ []
      | Done t out ↦ handed_first (writes_by (seat_at s.seats.seats n) s.boot) keeps (run_hands t n more)
    ])

-- What a line about connections hands to the keeper, where it replies so to one step after the other.
abbrev pub line_hands : SiteState → SeatLine → List Bool → List Handed
line_hands s (lines.Conn n) replies = []
line_hands s (lines.Bytes n bytes) replies = []
line_hands s (lines.End n) replies = []
line_hands s (lines.Step n) replies = step_hands s n replies
line_hands s (lines.Run n) replies = run_hands s n replies

-- What the keeper tells before and after it was handed these, one after the other.
abbrev pub TellsHanded : List Handed → Option KeeperTold → Option KeeperTold → Type 0
TellsHanded [] old new = new ≡ old
TellsHanded (h ∷ more) old new =
    (between : Option KeeperTold) × TellsReply h.writes h.keeps old between × TellsHanded more between new

-- a place for a connection, over a container and what is lent to it
abbrev pub place_from : Option Seat → ContainerValue → Lending → ℕ → ManagerValue → Place
place_from seat container lending word manager = record {
  seat = seat;
  world = record {
    boot = container.boot;
    since = container.since;
    store = lending.lanes;
    word = word;
    serial = lending.serial;
  };
  manager = manager;
}

-- The count of faults of the keeper did not fall while it was handed these, one after the other, and rose at each that
-- it did not keep.
abbrev pub AreCounted : List Handed → ℕ → ℕ → Type 0
AreCounted [] old new = old ≤ new
AreCounted (h ∷ more) old new =
    (between : ℕ) × (old ≤ between) × (h.keeps ≡ false → Rose old between) × AreCounted more between new

-- The keeper of a container was handed these, one after the other, and nothing else.
pub record AreHanded (handed : List Handed) (old new : ContainerValue) : Type 0 where
  pub tells : TellsHanded handed old.told new.told
  pub counted : AreCounted handed old.faults new.faults

-- The keeper of a container was handed the first of these, and nothing else; or it had no memory for the very first.
pub record AreSomeHanded (handed : List Handed) (old new : ContainerValue) : Type 0 where
  pub made : List Handed
  pub more : List Handed
  pub begins : handed ≡ made ++ more
  pub between : Option KeeperTold
  pub tells : TellsHanded made old.told between
  pub last : (new.told ≡ between) ⊎ ((made ≡ []) × TellsRefusal faults.OutOfMemory between new.told)
  pub counted : AreCounted made old.faults new.faults

-- Nothing was added to the journal of a container, or to the events since its start, and its keeper has kept nothing of
-- what it was handed. Its boot is as it was, but for how often its components were entered.
abbrev pub HasAddedNothing : List Handed → ContainerValue → ContainerValue → Type 0
HasAddedNothing made old new = (made ≡ []) × KeepsEvents old new

-- The boot of a container, and the events since its start, are as a connection left them that made its step in a place.
abbrev pub IsAsPlaceLeaves : Answer Place → ContainerValue → Type 0
IsAsPlaceLeaves answer new =
    (place : Place) × (text : List ℕ) × (answer ≡ Done place text) × (new.boot ≡ place.world.boot) × (new.since ≡ place.world.since)

-- The same, of a step of the site.
abbrev pub IsAsStepLeaves : Answer SiteState → ContainerValue → Type 0
IsAsStepLeaves answer new =
    (site : SiteState) × (text : List ℕ) × (answer ≡ Done site text) × (new.boot ≡ site.boot) × (new.since ≡ site.since)

-- A connection came to this in its place, with this manager, where the keeper replied so. What it heard is spelled by
-- its bytes, and its step, if it had one to make, was made by its calls.
pub record HasMovedIn (key : List ℕ) (now : Moment) (n : ℕ) (seat : Option Seat) (old : ContainerValue) (w : SeatWorld) (m : ManagerValue) (answer : Answer Place) (new : ContainerValue) : Type 0 where
  pub keeps : Bool
  pub answers : answer ≡ place_step (record { key = key; worker = worker_of n; now = now; keeps = keeps }) n seat w m
  pub handed : AreHanded (handed_first (writes_by seat old.boot) keeps []) old new
  pub heard : PlaceHearsSpelled seat w.store
  pub made : (there : Seat) → seat ≡ Some there → moves (turn there.connection) ≡ true
      → WasStepped (record { key = key; worker = worker_of n; now = now; keeps = keeps }) there w

-- the step of a connection over a container, where the keeper replies so
abbrev pub step_in : ContainerValue → SessionsState → SeatsState → ℕ → Bool → StepMade
step_in container sessions seats n keeps =
    record { site = site_in container sessions seats; number = n; keeps = keeps }

-- Memory ran out in the step of a connection in its place: before anything was added; or behind what it does in the
-- container, and then the keeper replied so to all that the step hands to it, and what it heard is spelled.
pub record BreaksIn (key : List ℕ) (now : Moment) (n : ℕ) (seat : Option Seat) (old : ContainerValue) (w : SeatWorld) (m : ManagerValue) (new : ContainerValue) : Type 0 where
  pub keeps : Bool
  pub handed : AreSomeHanded (handed_first (writes_by seat old.boot) keeps []) old new
  pub added : HasAddedNothing handed.made old new
      ⊎ ((handed.more ≡ []) × (new.told ≡ handed.between)
      × IsAsPlaceLeaves (place_step (record { key = key; worker = worker_of n; now = now; keeps = keeps }) n seat w m) new
      × PlaceHearsSpelled seat w.store)

-- The step of a connection came to this answer in a container, and left the keeper so, where it replied so. What it
-- heard is spelled, and it was made by its calls.
pub record HasMadeStep (n : ℕ) (old : ContainerValue) (sessions : SessionsState) (seats : SeatsState) (answer : Answer SiteState) (new : ContainerValue) : Type 0 where
  pub keeps : Bool
  pub answers : answer ≡ step_line (site_in old sessions seats) n keeps
  pub handed : AreHanded (step_hands (site_in old sessions seats) n (keeps ∷ [])) old new
  pub heard : StepHearsSpelled (step_in old sessions seats n keeps)
  pub made : WasMade (step_in old sessions seats n keeps)

-- A run made one more step, which wrote something behind its text, where the keeper replied so. What it heard is
-- spelled, and it was made by its calls.
pub record RunsOnce (n : ℕ) (old : ContainerValue) (sessions : SessionsState) (seats : SeatsState) (text : List ℕ) (new : ContainerValue) (new_sessions : SessionsState) (new_seats : SeatsState) (new_text : List ℕ) : Type 0 where
  pub keeps : Bool
  pub out : List ℕ
  pub step_is : step_line (site_in old sessions seats) n keeps ≡ Done (site_in new new_sessions new_seats) out
  pub text_is : new_text ≡ text ++ out
  pub handed : AreHanded (step_hands (site_in old sessions seats) n (keeps ∷ [])) old new
  pub heard : StepHearsSpelled (step_in old sessions seats n keeps)
  pub made : WasMade (step_in old sessions seats n keeps)

-- Steps of a run led to these, with this text, where the keeper replied so to them. What they heard is spelled, and
-- they were made by their calls.
pub record HasRunTo (n : ℕ) (old : ContainerValue) (sessions : SessionsState) (seats : SeatsState) (mid : ContainerValue) (mid_sessions : SessionsState) (mid_seats : SeatsState) (text : List ℕ) : Type 0 where
  pub replies : List Bool
  pub steps : steps_from (site_in old sessions seats) n replies ≡ Some (site_in mid mid_sessions mid_seats)
  pub comes : (more : List Bool) → run_from (site_in old sessions seats) [] n (replies ++ more) ≡ run_from (site_in mid mid_sessions mid_seats) text n more
  pub handed : AreHanded (run_hands (site_in old sessions seats) n replies) old mid
  pub heard : All StepHearsSpelled (run_makes (site_in old sessions seats) n replies)
  pub made : All WasMade (run_makes (site_in old sessions seats) n replies)

-- A line about connections came to this answer in a container, and left the keeper so, where the keeper replied so to
-- its steps. What they heard is spelled, and they were made by their calls.
pub record HasDone (line : SeatLine) (old : ContainerValue) (sessions : SessionsState) (seats : SeatsState) (answer : Answer SiteState) (new : ContainerValue) : Type 0 where
  pub replies : List Bool
  pub answers : Some answer ≡ seat_line (site_in old sessions seats) line replies
  pub handed : AreHanded (line_hands (site_in old sessions seats) line replies) old new
  pub heard : LineHearsSpelled (site_in old sessions seats) line replies
  pub made : LineWasMade (site_in old sessions seats) line replies

-- Memory ran out in the step of a connection: before anything was added; or behind what it does in the container, and
-- then the keeper replied so to all that the step hands to it, and what it heard is spelled. So a commit that was kept
-- is in the boot, and one with writes that is in the boot was handed to the keeper and kept.
pub record BreaksStep (n : ℕ) (old : ContainerValue) (sessions : SessionsState) (seats : SeatsState) (new : ContainerValue) : Type 0 where
  pub keeps : Bool
  pub handed : AreSomeHanded (step_hands (site_in old sessions seats) n (keeps ∷ [])) old new
  pub added : HasAddedNothing handed.made old new
      ⊎ ((handed.more ≡ []) × (new.told ≡ handed.between)
      × IsAsStepLeaves (step_line (site_in old sessions seats) n keeps) new
      × StepHearsSpelled (step_in old sessions seats n keeps))

-- Memory ran out in the run of a connection: whole steps of it were made by their calls, where the keeper replied so,
-- and what they heard is spelled; it could go on and was not at its end; and then memory ran out in a step.
pub record BreaksRun (n : ℕ) (old : ContainerValue) (sessions : SessionsState) (seats : SeatsState) (new : ContainerValue) : Type 0 where
  pub replies : List Bool
  pub mid : ContainerValue
  pub mid_sessions : SessionsState
  pub mid_seats : SeatsState
  pub steps : steps_from (site_in old sessions seats) n replies ≡ Some (site_in mid mid_sessions mid_seats)
  pub handed : AreHanded (run_hands (site_in old sessions seats) n replies) old mid
  pub heard : All StepHearsSpelled (run_makes (site_in old sessions seats) n replies)
  pub made : All WasMade (run_makes (site_in old sessions seats) n replies)
  pub there : can_run (site_in mid mid_sessions mid_seats) n ≡ true
  pub goes_on : rests (seat_at mid_seats.seats n) ≡ false
  pub last : BreaksStep n mid mid_sessions mid_seats new

-- Memory ran out in a line about connections: one that makes no step leaves the container as it was.
abbrev pub BreaksOff : SeatLine → ContainerValue → SessionsState → SeatsState → ContainerValue → Type 0
BreaksOff (lines.Conn n) old sessions seats new = new ≡ old
BreaksOff (lines.Bytes n bytes) old sessions seats new = new ≡ old
BreaksOff (lines.End n) old sessions seats new = new ≡ old
BreaksOff (lines.Step n) old sessions seats new = BreaksStep n old sessions seats new
BreaksOff (lines.Run n) old sessions seats new = BreaksRun n old sessions seats new
