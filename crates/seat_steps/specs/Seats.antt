-- One step of a seat, as a function: of the seat, of all that it may change, and of what it is given.
use Rattle.std.specs.Prelude.{ℕ, ◌+◌, ◌%◌, ◌^◌, Bool, List, Option, None}
use Rattle.auction_calls.specs.Texts.{call_bytes}
use Rattle.auction_calls.specs.declared.action.ActionCall.{ActionCall}
use Rattle.auction_site.specs.Actions.{steps_of}
use Rattle.boot_core.specs.Boot.{BootValue}
use Rattle.container_core.specs.declared.history.Event.{Event}
use Rattle.crash_base.specs.declared.numbers.Moment.{Moment}
use Rattle.crash_base.specs.declared.numbers.WorkerNo.{WorkerNo}
use Rattle.failure_scores.specs.declared.report.FailureReport.{FailureReport}
use Rattle.lane_link.specs.Links.{lane_link_tally}
use Rattle.lane_link.specs.declared.link.LaneLink.{LaneLink}
use Rattle.outcome_items.specs.declared.item.Item.{Item}
use Rattle.request_intake.specs.declared.intake.HomeBoot.{HomeBoot}
use Rattle.session_lanes.specs.Lanes.{LanesState}
use Rattle.shepherd.specs.Reports.{report_in}
use Rattle.shepherd.specs.Shepherds.{turn}
use Rattle.shepherd.specs.declared.shepherd.Shepherd.{Shepherd}
use Rattle.shepherd.specs.declared.shepherd.ShepherdTurn.{ShepherdTurn}
use Rattle.shepherd.specs.declared.shepherd.ShepherdTurn.TheVariants as turns
use Rattle.shepherd.specs.declared.shepherd.Stage.{Stage}
use Rattle.shepherd_steps.specs.Alone.{Making}
use Rattle.shepherd_steps.specs.Deciding.{Readings, decided_by}
use Rattle.shepherd_steps.specs.Events.{event_of}
use Rattle.shepherd_steps.specs.Stepping.{Givens, Outcome, World, step}
use Rattle.shepherd_steps.specs.Taking.{Numbers, Service}
use Rattle.text_readings.specs.CookieTexts.{cookie_of_text}
use Rattle.text_readings.specs.TokenTexts.{request_of_text}
use Rattle.seat_steps.specs.Replies.{lane_replies}
use Rattle.seat_steps.specs.Twinned.{Twinned, twinned, way_in}
use Rattle.seat_steps.specs.declared.seat.Seat.{Seat}
use Rattle.seat_steps.specs.declared.seat.TheConstants.{NODE}

-- All that a step of a seat may change besides: the boot, and the events since its start; the bricks by their lanes;
-- and the random word and the serial number that are drawn next.
pub record SeatWorld : Type 0 where
  pub boot : BootValue
  pub since : List Event
  pub store : LanesState
  pub word : ℕ
  pub serial : ℕ

-- What a step is given: the key of the service, who serves, the present moment, and whether the keeper keeps what it is
-- handed.
pub record SeatGivens : Type 0 where
  pub key : List ℕ
  pub worker : WorkerNo
  pub now : Moment
  pub keeps : Bool

-- what the texts of cookies and of tokens are read as under a key
abbrev pub readings_under : List ℕ → Readings
readings_under key =
    record { cookies = cookie_of_text key; tokens = λ cookie text. request_of_text key cookie.key text }

-- the numbers that are to come, from a word and a serial number on
abbrev pub numbers_from : ℕ → ℕ → Numbers
numbers_from word serial = record { words = λ n. (word + n) % (2 ^ 64); serials = λ n. serial + n }

-- the node and the boot by which requests are taken in: the boot is this one
abbrev pub home_in : BootValue → HomeBoot
home_in boot = record { node = NODE; boot = boot.start.boot }

-- the service that takes requests in a world
abbrev pub service_in : SeatGivens → SeatWorld → Service
service_in g w = record {
  key = g.key;
  home = home_in w.boot;
  decides = decided_by (readings_under g.key) w.boot.start.boot;
  numbers = numbers_from w.word w.serial;
}

-- the text and the program that are made of a call
abbrev pub made_of : ActionCall → List ℕ × ActionCall
made_of call = (call_bytes call, call)

-- how responses and programs are made
abbrev pub making_by : SeatGivens → Making ActionCall
making_by g = record { key = g.key; worker = g.worker; made = made_of }

-- what the step of a connection is given in a world
abbrev pub givens_in : SeatGivens → SeatWorld → Givens ActionCall LaneLink
givens_in g w = record {
  service = service_in g w;
  making = making_by g;
  asks = steps_of;
  replies = lane_replies;
  tally = lane_link_tally;
  now = g.now;
  keeps = g.keeps;
}

-- a seat in a world, as the step of its connection sees them: its twin is active, and nothing is drawn yet
abbrev pub seen_by : Seat → SeatWorld → World ActionCall LaneLink
seen_by seat w = record {
  connection = seat.connection;
  boot = w.boot;
  since = w.since;
  windows = w.store.windows;
  link = record { lanes = w.store; active = seat.twin };
  drawn = record { words = 0; serials = 0 };
}

-- the world after a step of a connection in it: its windows are put back, and its numbers go on behind those drawn
abbrev pub world_behind : SeatWorld → World ActionCall LaneLink → SeatWorld
world_behind w after = record {
  boot = after.boot;
  since = after.since;
  store = record (after.link.lanes) { windows = after.windows };
  word = (w.word + after.drawn.words) % (2 ^ 64);
  serial = w.serial + after.drawn.serials;
}

-- a connection behind the event of its step, before it goes on by itself
abbrev pub behind_event : SeatGivens → Seat → SeatWorld → Shepherd ActionCall
behind_event g seat w = (event_of (givens_in g w) (seen_by seat w)).world.connection

-- what a connection reports by its stage right behind the event at a turn: nothing, but behind a step in the container
abbrev pub report_at : ShepherdTurn → Stage ActionCall → Option FailureReport
report_at turns.Bytes stage = None
report_at turns.Request stage = None
report_at turns.Outside stage = None
report_at turns.Windows stage = None
report_at turns.Inside stage = report_in stage
report_at turns.Program stage = None
report_at turns.Own stage = None
report_at turns.Output stage = None
report_at turns.Item stage = None
report_at (turns.Ended end) stage = None

-- The report of a step: of its request, if that failed. It is made right behind the event.
abbrev pub seat_report : SeatGivens → Seat → SeatWorld → Option FailureReport
seat_report g seat w = report_at (turn seat.connection) (behind_event g seat w).stage

-- What a step of a seat leaves: the seat, the world, the bytes that were put out, the items that were taken, and the
-- report of the request, if it failed.
pub record SeatOutcome : Type 0 where
  pub seat : Seat
  pub world : SeatWorld
  pub bytes : List ℕ
  pub items : List Item
  pub report : Option FailureReport

-- what is left of a seat with this twin after what its connection now holds is told in the world
abbrev pub with_twin : Twinned → SeatOutcome → SeatOutcome
with_twin t o = record {
  seat = record { connection = o.seat.connection; twin = t.twin };
  world = record { boot = o.world.boot; since = o.world.since; store = t.store; word = o.world.word; serial = o.world.serial };
  bytes = o.bytes;
  items = o.items;
  report = o.report;
}

-- the same, by the stage of the connection
abbrev pub synced : SeatOutcome → SeatOutcome
synced o = with_twin (twinned (way_in o.seat.connection.stage) o.seat.twin o.world.store) o

-- what the step of its connection leaves of a seat, with this report, before its twin is looked after
abbrev pub unsynced : Option ℕ → SeatWorld → Option FailureReport → Outcome ActionCall LaneLink → SeatOutcome
unsynced twin w report o = record {
  seat = record { connection = o.world.connection; twin = twin };
  world = world_behind w o.world;
  bytes = o.bytes;
  items = o.items;
  report = report;
}

-- The step of a seat in a world: that of its connection, over the bricks by its twin; and then what the connection
-- holds has a twin.
unfoldable pub seat_step : SeatGivens → Seat → SeatWorld → SeatOutcome
seat_step g seat w = synced (unsynced seat.twin w (seat_report g seat w) (step (givens_in g w) (seen_by seat w)))
