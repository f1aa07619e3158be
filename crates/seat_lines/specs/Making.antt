-- The steps that connections make by their lines, and what is told of each by the code that makes it.
use Rattle.std.specs.List.{flat_map}
use Rattle.std.specs.Prelude.{◌≡◌, ℕ, ◌<◌, ◌^◌, All, Bool, true, false, if◌then◌else◌, List, [], ◌∷◌, Option, Some}
use Rattle.container_core.specs.Container.{ContainerValue, HasGrownBy}
use Rattle.container_core.specs.History.{entries_in}
use Rattle.failure_scores.specs.declared.report.FailureReport.{FailureReport}
use Rattle.outside.specs.declared.clock.TheConstants.{MOMENTS_END}
use Rattle.scenario_text.specs.Answer.{Refused, Done}
use Rattle.scenario_text.specs.declared.seat_line.SeatLine.{SeatLine}
use Rattle.scenario_text.specs.declared.seat_line.SeatLine.TheVariants as lines
use Rattle.seat_steps.specs.Going.{GoesOnAtSeat}
use Rattle.seat_steps.specs.Replies.{SeatHears}
use Rattle.seat_steps.specs.Seats.{SeatGivens, SeatWorld, seat_step}
use Rattle.seat_steps.specs.Stepped.{HasStepped}
use Rattle.seat_steps.specs.declared.seat.Seat.{Seat}
use Rattle.send_windows.specs.Windows.{KeepLimits}
use Rattle.session_lanes.specs.Lanes.{LanesState}
use Rattle.session_steps.specs.Kept.{HasSoundStore}
use Rattle.shepherd.specs.Shepherds.{turn}
use Rattle.seat_lines.specs.Items.{reports_at, step_yields}
use Rattle.seat_lines.specs.Lines.{givens_of, is_beyond, moves, step_line, world_of}
use Rattle.seat_lines.specs.Runs.{rests}
use Rattle.seat_lines.specs.Site.{SiteState, seat_at}

-- A step that a connection makes: over this site, the connection of this number, where the keeper keeps what it is
-- handed or not.
pub record StepMade : Type 0 where
  pub site : SiteState
  pub number : ℕ
  pub keeps : Bool

-- the step that is made where the keeper replies so first, if it is not refused
abbrev pub step_makes : SiteState → ℕ → List Bool → List StepMade
step_makes s n [] = []
step_makes s n (keeps ∷ more) = elim (step_line s n keeps) [
  | Refused ↦ []
  | Done t out ↦ record { site = s; number = n; keeps = keeps } ∷ []
]

-- the steps that a run makes from here on, where the keeper replies so to one after the other
abbrev pub run_makes : SiteState → ℕ → List Bool → List StepMade
run_makes s n [] = []
run_makes s n (keeps ∷ more) =
    if rests (seat_at s.seats.seats n) then [] else
    (elim (step_line s n keeps) [
      | Refused ↦ []
      | Done t out ↦ record { site = s; number = n; keeps = keeps } ∷ run_makes t n more
    ])

-- The steps that a line about connections makes, where the keeper replies so to one after the other.
abbrev pub line_makes : SiteState → SeatLine → List Bool → List StepMade
line_makes s (lines.Conn n) replies = []
line_makes s (lines.Bytes n bytes) replies = []
line_makes s (lines.End n) replies = []
line_makes s (lines.Step n) replies = step_makes s n replies
line_makes s (lines.Run n) replies = run_makes s n replies

-- the reports that these steps made, in order
abbrev pub reports_made : List StepMade → List FailureReport
reports_made steps =
    flat_map (λ (step : StepMade). step_yields reports_at step.site step.number step.keeps) steps

-- What a connection would hear over these bricks is spelled by its bytes, if it is there.
abbrev pub PlaceHearsSpelled : Option Seat → LanesState → Type 0
PlaceHearsSpelled place st = (seat : Seat) → place ≡ Some seat → SeatHears seat st

-- What the connection of a step hears, over the bricks of the site, is spelled by its bytes, if it is there.
abbrev pub StepHearsSpelled : StepMade → Type 0
StepHearsSpelled step = (st : LanesState) (seat : Seat) → is_beyond step.number ≡ false
    → step.site.sessions.store ≡ Some st → seat_at step.site.seats.seats step.number ≡ Some seat → SeatHears seat st

-- The step of a seat in a world was made by its calls in a container, where the keeper replied as is given: so the
-- contract of the step tells it. The journal of the container is that of its events, and the connection goes on in it;
-- the bricks are sound, and their windows are within their limits. The container has grown by the step, to what the
-- step leaves of it.
pub record WasStepped (g : SeatGivens) (seat : Seat) (w : SeatWorld) : Type 0 where
  pub old : ContainerValue
  pub new : ContainerValue
  pub boot_is : old.boot ≡ w.boot
  pub since_is : old.since ≡ w.since
  pub entries_are : entries_in w.since ≡ w.boot.entries
  pub in_time : g.now.0 < MOMENTS_END
  pub word : w.word < 2 ^ 64
  pub goes : GoesOnAtSeat old seat.connection
  pub sound : HasSoundStore (Some w.store)
  pub limits : KeepLimits w.store.windows
  pub stepped : HasStepped g.key g.worker g.now seat old w new (seat_step g seat w)
  pub keeps_is : stepped.keeps ≡ g.keeps
  pub grown : HasGrownBy old new
  pub new_boot : new.boot ≡ (seat_step g seat w).world.boot
  pub new_since : new.since ≡ (seat_step g seat w).world.since

-- A step was made by the calls of its connection, if that is there and neither waits for bytes nor has ended.
abbrev pub WasMade : StepMade → Type 0
WasMade step = (st : LanesState) (seat : Seat) → step.site.sessions.store ≡ Some st
    → seat_at step.site.seats.seats step.number ≡ Some seat → moves (turn seat.connection) ≡ true
    → WasStepped (givens_of step.site step.number step.keeps) seat (world_of step.site st)

-- What the steps of a line hear is spelled by its bytes, where the keeper replies so to one after the other.
abbrev pub LineHearsSpelled : SiteState → SeatLine → List Bool → Type 0
LineHearsSpelled s line replies = All StepHearsSpelled (line_makes s line replies)

-- The steps of a line were made, where the keeper replied so to one after the other.
abbrev pub LineWasMade : SiteState → SeatLine → List Bool → Type 0
LineWasMade s line replies = All WasMade (line_makes s line replies)
