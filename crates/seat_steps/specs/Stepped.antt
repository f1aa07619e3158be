-- What the calls of a seat leave, as their contracts say it.
use Rattle.std.specs.Prelude.{◌≡◌, ◌≢◌, ◌⊎◌, ℕ, Bool, true, false, List, [], ◌++◌}
use Rattle.auction_calls.specs.declared.action.ActionCall.{ActionCall}
use Rattle.auction_site.specs.Actions.{steps_of}
use Rattle.boot_core.specs.Boot.{BootValue}
use Rattle.container_core.specs.Container.{ContainerValue}
use Rattle.crash_base.specs.declared.numbers.Moment.{Moment}
use Rattle.crash_base.specs.declared.numbers.WorkerNo.{WorkerNo}
use Rattle.crash_base.specs.declared.rows.RowWrite.{RowWrite}
use Rattle.lane_link.specs.Links.{LaneLinkMakes, lane_link_tally}
use Rattle.lane_link.specs.declared.link.LaneLink.{LaneLink}
use Rattle.outcome_items.specs.declared.item.Item.{Item}
use Rattle.outside.specs.Clock.{PlainClockValue}
use Rattle.outside.specs.Faults.{Rose}
use Rattle.outside.specs.Random.{PlainGives}
use Rattle.outside.specs.Serials.{PlainLooks}
use Rattle.request_intake.specs.declared.intake.HomeBoot.{HomeBoot}
use Rattle.request_tries.specs.Steps.{KeepsNothing}
use Rattle.request_visit.specs.Stepping.{counted}
use Rattle.session_lanes.specs.Lanes.{LanesState}
use Rattle.shepherd.specs.Shepherds.{turn}
use Rattle.shepherd.specs.Steps.{TakesRequest}
use Rattle.shepherd.specs.declared.shepherd.Shepherd.{Shepherd}
use Rattle.shepherd.specs.declared.shepherd.ShepherdTurn.{ShepherdTurn}
use Rattle.shepherd.specs.declared.shepherd.ShepherdTurn.TheVariants as turns
use Rattle.shepherd.specs.declared.shepherd.Stage.{Stage}
use Rattle.shepherd.specs.declared.shepherd.Stage.TheVariants.{Resting, Serving, Refusing, Over}
use Rattle.shepherd_steps.specs.Alone.{GoesAlone, goes_alone}
use Rattle.shepherd_steps.specs.Inside.{HasReplied, TellsReply, added_to, handed, kept_in}
use Rattle.shepherd_steps.specs.Stepping.{Calling, Calls, Givens}
use Rattle.site_programs.specs.Errands.{IsMadeOf}
use Rattle.site_programs.specs.declared.maker.SiteMaker.{SiteMaker}
use Rattle.seat_steps.specs.Replies.{HearsSpelled, SeatHears}
use Rattle.seat_steps.specs.Seats.{SeatGivens, SeatOutcome, SeatWorld, givens_in, report_at, seat_step}
use Rattle.seat_steps.specs.Twinned.{Twinned, twinned, way_in}
use Rattle.seat_steps.specs.declared.seat.NextDraws.{NextDraws}
use Rattle.seat_steps.specs.declared.seat.Seat.{Seat}

-- the writes that the request that is open, if one is, hands to the keeper where it makes a step in a boot
abbrev pub writes_of : Stage ActionCall → BootValue → List RowWrite
writes_of Resting boot = []
writes_of (Serving v call) boot = handed steps_of v boot
writes_of (Refusing why bytes) boot = []
writes_of (Over end) boot = []

-- the same at a turn: the keeper is handed something at a step in the container alone
abbrev pub writes_at : ShepherdTurn → Stage ActionCall → BootValue → List RowWrite
writes_at turns.Bytes stage boot = []
writes_at turns.Request stage boot = []
writes_at turns.Outside stage boot = []
writes_at turns.Windows stage boot = []
writes_at turns.Inside stage boot = writes_of stage boot
writes_at turns.Program stage boot = []
writes_at turns.Own stage boot = []
writes_at turns.Output stage boot = []
writes_at turns.Item stage boot = []
writes_at (turns.Ended end) stage boot = []

-- The writes that the step of a connection in a boot hands to the keeper: none, where it is not called.
unfoldable pub seat_writes : Shepherd ActionCall → BootValue → List RowWrite
seat_writes s boot = writes_at (turn s) s.stage boot

-- a container and lanes, with the numbers that are drawn next, as the world of seats
abbrev pub world_from : ContainerValue → LanesState → NextDraws → SeatWorld
world_from container store next = record {
  boot = container.boot;
  since = container.since;
  store = store;
  word = next.word;
  serial = next.serial;
}

-- whether the keeper kept what it was handed, by the events that a container has more
abbrev pub kept_between : ContainerValue → ContainerValue → Bool
kept_between old new = kept_in (added_to old.since new.since)

-- The keeper replied so where it was handed these writes: by the events, by what it tells, and by its count of faults,
-- which rose where it did not keep them.
pub record KeeperReplied (keeps : Bool) (writes : List RowWrite) (old new : ContainerValue) : Type 0 where
  pub replied : HasReplied keeps writes (added_to old.since new.since)
  pub tells : TellsReply writes keeps old.told new.told
  pub failed : keeps ≡ false → writes ≢ [] → Rose old.faults new.faults

-- what the clock of a seat told last
abbrev pub clock_told : PlainClockValue → ℕ
clock_told clock = clock.told.0

-- a clock that has told the moment that it shows
abbrev pub told_at : Moment → PlainClockValue
told_at now = record { shown = now; told = now }

-- A request was taken off the bytes of a connection at a moment, and these numbers are drawn next.
pub record TakesAt (key : List ℕ) (home : HomeBoot) (link : LaneLink) (now : Moment) (old : Shepherd ActionCall) (next : NextDraws) (new : Shepherd ActionCall) (after : NextDraws) : Type 0 where
  pub clock : PlainClockValue
  pub told_is : clock.told.0 ≡ now.0
  pub takes : TakesRequest clock_told PlainGives PlainLooks key home (counted (lane_link_tally link)) old (told_at now) next.word next.serial new clock after.word after.serial

-- all that the calls of a seat are made with
abbrev pub SeatCalling : Type 0
SeatCalling = Calling ActionCall LaneLink PlainClockValue ℕ ℕ

-- the same, of a connection in a container, over a link
abbrev pub calling : Moment → Shepherd ActionCall → ContainerValue → LaneLink → NextDraws → SeatCalling
calling now s container link next = record {
  connection = s;
  container = container;
  windows = link.lanes.windows;
  link = link;
  clock = told_at now;
  random = next.word;
  serials = next.serial;
}

-- the call at a turn was made, with programs of the site and over the lanes of a scenario
abbrev pub CallsAt : Givens ActionCall LaneLink → ShepherdTurn → SeatCalling → SeatCalling → List ℕ → Type 0
CallsAt g t from mid bytes = Calls LaneLinkMakes (λ (maker : SiteMaker). IsMadeOf) clock_told PlainGives PlainLooks g t from mid bytes

-- The call was made that is the event at the turn of a connection, and put out these bytes; the windows are put back.
pub record MakesEvent (g : SeatGivens) (old : Shepherd ActionCall) (container : ContainerValue) (link : LaneLink) (next : NextDraws) (bytes : List ℕ) (new : Shepherd ActionCall) (after : ContainerValue) (link_after : LaneLink) (next_after : NextDraws) : Type 0 where
  pub mid : SeatCalling
  pub calls : CallsAt (givens_in g (world_from container link.lanes next)) (turn old) (calling g.now old container link next) mid bytes
  pub connection_is : mid.connection ≡ new
  pub container_is : mid.container ≡ after
  pub lanes_are : link_after.lanes ≡ record (mid.link.lanes) { windows = mid.windows }
  pub word_is : mid.random ≡ next_after.word
  pub serial_is : mid.serials ≡ next_after.serial
  pub keeper : KeeperReplied g.keeps (seat_writes old container.boot) container after
  pub heard : turn old ≡ turns.Outside → HearsSpelled (way_in old.stage) link

-- the same, whoever serves, where the keeper replied as the events tell
abbrev pub EventMade : List ℕ → Moment → Shepherd ActionCall → ContainerValue → LaneLink → NextDraws → List ℕ → Shepherd ActionCall → ContainerValue → LaneLink → NextDraws → Type 0
EventMade key now old container link next bytes new after link_after next_after =
    (worker : WorkerNo) → MakesEvent (record { key = key; worker = worker; now = now; keeps = kept_between container after }) old container link next bytes new after link_after next_after

-- a connection makes the call by which it goes on by itself, with the items that it gives, if it goes on; else nothing
abbrev pub AloneIf : Bool → List ℕ → WorkerNo → ShepherdTurn → Shepherd ActionCall → Shepherd ActionCall → List Item → Type 0
AloneIf true key worker t old new items = GoesAlone (λ (maker : SiteMaker). IsMadeOf) (record {}) worker key t old new items
AloneIf false key worker t old new items = (new ≡ old) × (items ≡ [])

-- the same, by whose turn it is
abbrev pub AloneAt : List ℕ → WorkerNo → ShepherdTurn → Shepherd ActionCall → Shepherd ActionCall → List Item → Type 0
AloneAt key worker t old new items = AloneIf (goes_alone t) key worker t old new items

-- A connection did by itself what it does at its turn, and once more at its turn then.
pub record GoesAloneTwice (key : List ℕ) (worker : WorkerNo) (old new : Shepherd ActionCall) (items : List Item) : Type 0 where
  pub between : Shepherd ActionCall
  pub first : List Item
  pub second : List Item
  pub once : AloneAt key worker (turn old) old between first
  pub twice : AloneAt key worker (turn between) between new second
  pub items_are : items ≡ first ++ second

-- the numbers that are drawn next in a world
abbrev pub draws_in : SeatWorld → NextDraws
draws_in w = record { word = w.word; serial = w.serial }

-- The calls that a step of a seat made: that at the turn of its connection; what the connection reported right behind
-- it; then those by which the connection went on by itself; and what it then holds has a twin.
pub record MakesCalls (g : SeatGivens) (seat : Seat) (old : ContainerValue) (w : SeatWorld) (new : ContainerValue) (o : SeatOutcome) : Type 0 where
  pub mid : Shepherd ActionCall
  pub link : LaneLink
  pub made : MakesEvent g seat.connection old (record { lanes = w.store; active = seat.twin }) (draws_in w) o.bytes mid new link (draws_in o.world)
  pub reported : o.report ≡ report_at (turn seat.connection) mid.stage
  pub alone : GoesAloneTwice g.key g.worker mid o.seat.connection o.items
  pub twin : (let t : Twinned = record { twin = o.seat.twin; store = o.world.store } in t) ≡ twinned (way_in o.seat.connection.stage) seat.twin link.lanes

-- A step of a seat made its calls, and left just what the function says, where the keeper replied so.
pub record HasStepped (key : List ℕ) (worker : WorkerNo) (now : Moment) (seat : Seat) (old : ContainerValue) (w : SeatWorld) (new : ContainerValue) (o : SeatOutcome) : Type 0 where
  pub keeps : Bool
  pub keeper : KeeperReplied keeps (seat_writes seat.connection old.boot) old new
  pub heard : SeatHears seat w.store
  pub calls : MakesCalls (record { key = key; worker = worker; now = now; keeps = keeps }) seat old w new o
  pub step_is : o ≡ seat_step (record { key = key; worker = worker; now = now; keeps = keeps }) seat w

-- Nothing was added to the history of a container, and its keeper has kept nothing, or tells nothing from then on.
pub record AddedNothing (old new : ContainerValue) : Type 0 where
  pub since : new.since ≡ old.since
  pub keeper : KeepsNothing old new

-- A step of a seat broke off: nothing was added, to the history or by the keeper; or its event was made, and the keeper
-- replied as that tells.
abbrev pub BreaksOff : List ℕ → Moment → Seat → ContainerValue → LanesState → NextDraws → ContainerValue → NextDraws → Type 0
BreaksOff key now seat container lanes next after next_after =
    AddedNothing container after
    ⊎ ((bytes : List ℕ) × (mid : Shepherd ActionCall) × (link : LaneLink)
    × EventMade key now seat.connection container (record { lanes = lanes; active = seat.twin }) next bytes mid after link next_after)
