-- The call that is the event at the turn of a connection, as the calls of a connection are told.
use Rattle.std.proofs.Common.{◌≡◌, ◌∙◌, ℕ, Bool, List, [], ◌∷◌, Option, refl, sym, ap, subst}
use Rattle.auction_calls.specs.declared.action.ActionCall.{ActionCall}
use Rattle.auction_site.specs.Actions.{steps_of}
use Rattle.container_core.specs.Container.{ContainerValue}
use Rattle.container_core.specs.declared.history.Event.{Event}
use Rattle.crash_base.specs.declared.numbers.Moment.{Moment}
use Rattle.crash_base.specs.declared.rows.RowWrite.{RowWrite}
use Rattle.lane_link.specs.Links.{LaneLinkMakes, lane_link_tally}
use Rattle.lane_link.specs.declared.link.LaneLink.{LaneLink}
use Rattle.outside.specs.Random.{PlainGives}
use Rattle.outside.specs.Serials.{PlainLooks}
use Rattle.request_visit.specs.Stepping.{VisitsInside, VisitsWindows}
use Rattle.request_visit.specs.declared.visit.Visit.{Visit}
use Rattle.send_windows.specs.Windows.{WindowsValue}
use Rattle.session_lanes.specs.Lanes.{LanesState}
use Rattle.shepherd.specs.Shepherds.{turn}
use Rattle.shepherd.specs.Steps.{OnVisit, PutsOut, ShepherdSteps, StepsVisit, VisitsOutside}
use Rattle.shepherd.specs.declared.shepherd.AskedCall.{AskedCall}
use Rattle.shepherd.specs.declared.shepherd.Shepherd.{Shepherd}
use Rattle.shepherd.specs.declared.shepherd.ShepherdTurn.{ShepherdTurn}
use Rattle.shepherd.specs.declared.shepherd.ShepherdTurn.TheVariants as turns
use Rattle.shepherd.specs.declared.shepherd.Stage.{Stage}
use Rattle.shepherd.specs.declared.shepherd.Stage.TheVariants.{Resting, Serving, Refusing, Over}
use Rattle.shepherd_steps.specs.Inside.{HasReplied, TellsReply, added_to, handed, kept_in}
use Rattle.shepherd_steps.specs.Stepping.{Calls}
use Rattle.site_programs.specs.Errands.{IsMadeOf}
use Rattle.site_programs.specs.declared.maker.SiteMaker.{SiteMaker}
use Rattle.seat_steps.specs.Seats.{SeatGivens, givens_in, home_in}
use Rattle.seat_steps.specs.Stepped.{EventMade, KeeperReplied, MakesEvent, SeatCalling, TakesAt, calling, clock_told, kept_between, seat_writes, world_from, writes_at, writes_of}
use Rattle.seat_steps.specs.declared.seat.NextDraws.{NextDraws}
use Rattle.seat_steps.proofs.Faults.{visit-rose}
use Rattle.seat_steps.proofs.Windows.{outside-spelled, outside-windows}

-- the keeper is not called at a turn at which nothing is handed to it
not-called : (s : Shepherd ActionCall) (t : ShepherdTurn) (keeps : Bool) (container : ContainerValue) → turn s ≡ t → writes_at t s.stage container.boot ≡ []
    → KeeperReplied keeps (seat_writes s container.boot) container container
unfolding seat_writes
not-called s t keeps container is none =
    subst (λ (writes : List RowWrite). KeeperReplied keeps writes container container)
    (sym (ap (λ (x : ShepherdTurn). writes_at x s.stage container.boot) is ∙ none)) (record { replied = tt; tells = refl; failed = λ no some. absurd (some refl) })

-- what the events tell is what the keeper replied
replied-by : (writes : List RowWrite) (added : List Event) → HasReplied (kept_in added) writes added
replied-by [] added = tt
replied-by (w ∷ ws) added = refl

-- the call of an event, told at the turn of the connection
abbrev EventCalls : SeatGivens → Shepherd ActionCall → ContainerValue → LaneLink → NextDraws → ShepherdTurn → SeatCalling → List ℕ → Type 0
EventCalls g old container link next t mid bytes =
    Calls LaneLinkMakes (λ (maker : SiteMaker). IsMadeOf) clock_told PlainGives PlainLooks (givens_in g (world_from container link.lanes next)) t (calling g.now old container link next) mid bytes

module _ (g : SeatGivens) (old : Shepherd ActionCall) (container : ContainerValue) (link : LaneLink) (next : NextDraws) where
  pub nothing-made : (t : ShepherdTurn) → turn old ≡ t → EventCalls g old container link next t (calling g.now old container link next) [] → writes_at t old.stage container.boot ≡ [] → (t ≡ turns.Outside → ⊥)
      → MakesEvent g old container link next [] old container link next
  nothing-made t is calls none not_out = record {
    mid = calling g.now old container link next;
    calls = subst (λ (x : ShepherdTurn). EventCalls g old container link next x (calling g.now old container link next) []) (sym is) calls;
    connection_is = refl;
    container_is = refl;
    lanes_are = refl;
    word_is = refl;
    serial_is = refl;
    keeper = not-called old t g.keeps container is none;
    heard = λ out. absurd (not_out (sym is ∙ out));
  }

  pub request-made : (new : Shepherd ActionCall) (after : NextDraws) → turn old ≡ turns.Request → TakesAt g.key (home_in container.boot) link g.now old next new after
      → MakesEvent g old container link next [] new container link after
  request-made new after is takes =
      let mid : SeatCalling = record {
        connection = new;
        container = container;
        windows = link.lanes.windows;
        link = link;
        clock = takes.clock;
        random = after.word;
        serials = after.serial;
      } in
      record {
        mid = mid;
        calls = subst (λ (x : ShepherdTurn). EventCalls g old container link next x mid []) (sym is) (record {
          takes = takes.takes;
          told_is = λ head taken. takes.told_is;
          rest = refl;
          bytes_are = refl;
        });
        connection_is = refl;
        container_is = refl;
        lanes_are = refl;
        word_is = refl;
        serial_is = refl;
        keeper = not-called old turns.Request g.keeps container is refl;
        heard = λ out. absurd (let e : turns.Request ≡ turns.Outside = sym is ∙ out in cc);
      }

  pub link-made : (new : Shepherd ActionCall) (after : LaneLink) → turn old ≡ turns.Outside
      → ShepherdSteps (λ (v w : Visit ActionCall). VisitsOutside LaneLinkMakes lane_link_tally v link w after) old new
      → MakesEvent g old container link next [] new container after next
  link-made new after is steps =
      let mid : SeatCalling = record (calling g.now old container link next) { connection = new; link = after } in
      record {
        mid = mid;
        calls = subst (λ (x : ShepherdTurn). EventCalls g old container link next x mid []) (sym is) (record { steps = steps; rest = refl; bytes_are = refl });
        connection_is = refl;
        container_is = refl;
        lanes_are = ap (λ (w : WindowsValue). let st : LanesState = record (after.lanes) { windows = w } in st) (outside-windows old new link after steps);
        word_is = refl;
        serial_is = refl;
        keeper = not-called old turns.Outside g.keeps container is refl;
        heard = λ out. outside-spelled old new link after steps;
      }

  pub windows-made : (new : Shepherd ActionCall) (after : LaneLink) → turn old ≡ turns.Windows
      → ShepherdSteps (λ (v w : Visit ActionCall). VisitsWindows v link.lanes.windows w after.lanes.windows) old new
      → after.lanes ≡ record (link.lanes) { windows = after.lanes.windows }
      → MakesEvent g old container link next [] new container after next
  windows-made new after is steps rest =
      let mid : SeatCalling = record (calling g.now old container link next) { connection = new; windows = after.lanes.windows } in
      record {
        mid = mid;
        calls = subst (λ (x : ShepherdTurn). EventCalls g old container link next x mid []) (sym is) (record { steps = steps; rest = refl; bytes_are = refl });
        connection_is = refl;
        container_is = refl;
        lanes_are = rest;
        word_is = refl;
        serial_is = refl;
        keeper = not-called old turns.Windows g.keeps container is refl;
        heard = λ out. absurd (let e : turns.Windows ≡ turns.Outside = sym is ∙ out in cc);
      }

  pub output-made : (bytes : List ℕ) (new : Shepherd ActionCall) → turn old ≡ turns.Output → PutsOut old.stage bytes new.stage → new ≡ record old { stage = new.stage }
      → MakesEvent g old container link next bytes new container link next
  output-made bytes new is puts rest =
      let mid : SeatCalling = record (calling g.now old container link next) { connection = new } in
      record {
        mid = mid;
        calls = subst (λ (x : ShepherdTurn). EventCalls g old container link next x mid bytes) (sym is) (record {
          puts = puts;
          rest = ap (λ (s : Shepherd ActionCall). let x : SeatCalling = record (calling g.now old container link next) { connection = s } in x) rest;
        });
        connection_is = refl;
        container_is = refl;
        lanes_are = refl;
        word_is = refl;
        serial_is = refl;
        keeper = not-called old turns.Output g.keeps container is refl;
        heard = λ out. absurd (let e : turns.Output ≡ turns.Outside = sym is ∙ out in cc);
      }

-- the law of what a keeper tells
abbrev pub KeeperLaw : Type 0
KeeperLaw = (keeps : Bool) (old new : Visit ActionCall) (container after : ContainerValue)
    → HasReplied keeps (handed steps_of old container.boot) (added_to container.since after.since)
    → VisitsInside steps_of old container new after → TellsReply (handed steps_of old container.boot) keeps container.told after.told

-- a step in the container, where the keeper replied as the events tell
pub container-made : KeeperLaw → (g : SeatGivens) (old new : Shepherd ActionCall) (container after : ContainerValue) (link : LaneLink) (next : NextDraws) → g.keeps ≡ kept_between container after → turn old ≡ turns.Inside
    → ShepherdSteps (λ (v w : Visit ActionCall). VisitsInside steps_of v container w after) old new
    → MakesEvent g old container link next [] new after link next
unfolding seat_writes
container-made law g old new container after link next keeps is steps =
    let mid : SeatCalling = record (calling g.now old container link next) { connection = new; container = after } in
    let added : List Event = added_to container.since after.since in
    record {
      mid = mid;
      calls = subst (λ (x : ShepherdTurn). EventCalls g old container link next x mid []) (sym is) (record {
        steps = steps;
        replies = on-open old.stage steps.steps;
        rest = refl;
        bytes_are = refl;
      });
      connection_is = refl;
      container_is = refl;
      lanes_are = refl;
      word_is = refl;
      serial_is = refl;
      keeper = subst (λ (writes : List RowWrite). KeeperReplied g.keeps writes container after)
          (sym (ap (λ (x : ShepherdTurn). writes_at x old.stage container.boot) is)) (keeper old.stage steps.steps);
      heard = λ out. absurd (let e : turns.Inside ≡ turns.Outside = sym is ∙ out in cc);
    } where
      replied : (writes : List RowWrite) → HasReplied g.keeps writes (added_to container.since after.since)
      replied writes =
          subst (λ (b : Bool). HasReplied b writes (added_to container.since after.since)) (sym keeps) (replied-by writes (added_to container.since after.since))

      on-open : (stage : Stage ActionCall) → StepsVisit (λ (v w : Visit ActionCall). VisitsInside steps_of v container w after) stage new.stage
          → OnVisit stage (λ (v : Visit ActionCall) (call : Option AskedCall). HasReplied g.keeps (handed steps_of v container.boot) (added_to container.since after.since))
      on-open Resting h = absurd h
      on-open (Serving v call) h = replied (handed steps_of v container.boot)
      on-open (Refusing why bytes) h = absurd h
      on-open (Over end) h = absurd h

      keeper : (stage : Stage ActionCall) → StepsVisit (λ (v w : Visit ActionCall). VisitsInside steps_of v container w after) stage new.stage
          → KeeperReplied g.keeps (writes_of stage container.boot) container after
      keeper Resting h = absurd h
      keeper (Serving v call) h = record {
        replied = replied (handed steps_of v container.boot);
        tells = law g.keeps v h.0 container after (replied (handed steps_of v container.boot)) h.1;
        failed = λ no some. visit-rose container after (sym keeps ∙ no) v h.0 h.1;
      }
      keeper (Refusing why bytes) h = absurd h
      keeper (Over end) h = absurd h

-- the same of the calls that put out no bytes, whoever serves
module _ (key : List ℕ) (now : Moment) (old : Shepherd ActionCall) (container : ContainerValue) (link : LaneLink) (next : NextDraws) (bytes : List ℕ) (none : bytes ≡ []) where
  silent : (new : Shepherd ActionCall) (after : ContainerValue) (link_after : LaneLink) (next_after : NextDraws) → EventMade key now old container link next [] new after link_after next_after
      → EventMade key now old container link next bytes new after link_after next_after
  silent new after link_after next_after made = subst (λ (b : List ℕ). EventMade key now old container link next b new after link_after next_after) (sym none) made

  pub nothing-event : (t : ShepherdTurn) → turn old ≡ t → ((g : SeatGivens) → EventCalls g old container link next t (calling g.now old container link next) []) → writes_at t old.stage container.boot ≡ [] → (t ≡ turns.Outside → ⊥)
      → EventMade key now old container link next bytes old container link next
  nothing-event t is calls nothing not_out = silent old container link next (λ worker.
      let g : SeatGivens = record { key = key; worker = worker; now = now; keeps = kept_between container container } in
      nothing-made g old container link next t is (calls g) nothing not_out)

  pub request-event : (new : Shepherd ActionCall) (after : NextDraws) → turn old ≡ turns.Request → TakesAt key (home_in container.boot) link now old next new after
      → EventMade key now old container link next bytes new container link after
  request-event new after is takes = silent new container link after (λ worker. request-made (record { key = key; worker = worker; now = now; keeps = kept_between container container }) old container link next new after is takes)

  pub link-event : (new : Shepherd ActionCall) (after : LaneLink) → turn old ≡ turns.Outside
      → ShepherdSteps (λ (v w : Visit ActionCall). VisitsOutside LaneLinkMakes lane_link_tally v link w after) old new
      → EventMade key now old container link next bytes new container after next
  link-event new after is steps = silent new container after next (λ worker. link-made (record { key = key; worker = worker; now = now; keeps = kept_between container container }) old container link next new after is steps)

  pub windows-event : (new : Shepherd ActionCall) (after : LaneLink) → turn old ≡ turns.Windows
      → ShepherdSteps (λ (v w : Visit ActionCall). VisitsWindows v link.lanes.windows w after.lanes.windows) old new
      → after.lanes ≡ record (link.lanes) { windows = after.lanes.windows }
      → EventMade key now old container link next bytes new container after next
  windows-event new after is steps rest = silent new container after next (λ worker. windows-made (record { key = key; worker = worker; now = now; keeps = kept_between container container }) old container link next new after is steps rest)

  pub container-event : KeeperLaw → (new : Shepherd ActionCall) (after : ContainerValue) → turn old ≡ turns.Inside
      → ShepherdSteps (λ (v w : Visit ActionCall). VisitsInside steps_of v container w after) old new
      → EventMade key now old container link next bytes new after link next
  container-event law new after is steps = silent new after link next (λ worker. container-made law (record { key = key; worker = worker; now = now; keeps = kept_between container after }) old new container after link next refl is steps)
