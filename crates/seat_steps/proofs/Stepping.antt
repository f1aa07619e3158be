-- What the calls of a seat leave is what the function says.
use Rattle.std.proofs.Common.{◌≡◌, ◌∙◌, ℕ, ◌+◌, ◌<◌, ◌%◌, ◌^◌, List, Option, refl, sym, ap, subst, arith}
use Rattle.auction_calls.specs.declared.action.ActionCall.{ActionCall}
use Rattle.boot_core.specs.Boot.{BootValue}
use Rattle.container_core.specs.Container.{ContainerValue}
use Rattle.container_core.specs.declared.history.Event.{Event}
use Rattle.failure_scores.specs.declared.report.FailureReport.{FailureReport}
use Rattle.lane_link.specs.Links.{LaneLinkMakes}
use Rattle.lane_link.specs.declared.link.LaneLink.{LaneLink}
use Rattle.outcome_items.specs.declared.item.Item.{Item}
use Rattle.outside.specs.Clock.{PlainClockValue}
use Rattle.outside.specs.Random.{PlainGives}
use Rattle.outside.specs.Serials.{PlainLooks}
use Rattle.session_lanes.specs.Lanes.{LanesState}
use Rattle.shepherd.specs.Shepherds.{turn}
use Rattle.shepherd.specs.declared.shepherd.Shepherd.{Shepherd}
use Rattle.shepherd_steps.specs.Alone.{GoesAloneThrough}
use Rattle.shepherd_steps.specs.Stepping.{AreFunctions, Givens, Leaves, MakesStep, Outcome, World, step, world_of}
use Rattle.shepherd_steps.specs.Taking.{Counts}
use Rattle.site_programs.specs.Errands.{IsMadeOf}
use Rattle.site_programs.specs.declared.maker.SiteMaker.{SiteMaker}
use Rattle.seat_steps.specs.Going.{GoesOnAtSeat}
use Rattle.seat_steps.specs.Seats.{SeatGivens, SeatOutcome, SeatWorld, givens_in, report_at, seat_report, seat_step, seen_by, synced, unsynced, with_twin}
use Rattle.seat_steps.specs.Stepped.{GoesAloneTwice, MakesEvent, SeatCalling, calling, clock_told, world_from}
use Rattle.seat_steps.specs.Twinned.{Twinned, twinned, way_in}
use Rattle.seat_steps.specs.declared.seat.NextDraws.{NextDraws}
use Rattle.seat_steps.specs.declared.seat.Seat.{Seat}
use Rattle.seat_steps.proofs.BehindEvents.{EventLaws, first-word, functions, mid-is, serials_from, words_from}
use Rattle.seat_steps.proofs.GoneAlone.{AloneLaws, ended, through}

-- the laws by which a step of a connection is a function
pub record StepLaws : Type 0 where
  pub alone : AloneLaws
  pub event : EventLaws
  pub step_is : (g : Givens ActionCall LaneLink) (maker : SiteMaker) (words serials : ℕ → ℕ) (drawn : Counts) (old new : SeatCalling) (bytes : List ℕ) (items : List Item)
      → AreFunctions {C = PlainClockValue} LaneLinkMakes (λ (m : SiteMaker). IsMadeOf) clock_told PlainGives PlainLooks g maker words serials
      → old.random ≡ words drawn.words → old.serials ≡ serials drawn.serials
      → MakesStep LaneLinkMakes (λ (m : SiteMaker). IsMadeOf) clock_told PlainGives PlainLooks g maker old new bytes items
      → Leaves words serials new bytes items (step g (world_of old drawn))

module _ (laws : StepLaws) (g : SeatGivens) (seat : Seat) (container : ContainerValue) (lanes : LanesState) (next : NextDraws) (small : next.word < 2 ^ 64) where
  abbrev link : LaneLink
  link = record { lanes = lanes; active = seat.twin }

  abbrev world : SeatWorld
  world = world_from container lanes next

  -- what the step of its connection leaves
  left : (bytes : List ℕ) (items : List Item) (mid new : Shepherd ActionCall) (after : ContainerValue) (link_after : LaneLink) (next_after : NextDraws)
      → (event : MakesEvent g seat.connection container link next bytes mid after link_after next_after) → GoesOnAtSeat after mid → GoesAloneTwice g.key g.worker mid new items
      → Leaves (words_from next.word) (serials_from next.serial) (let x : SeatCalling = record (event.mid) { connection = new } in x) bytes items (step (givens_in g world) (seen_by seat world))
  left bytes items mid new after link_after next_after event on goes =
      let came = through laws.alone g.key g.worker mid new items goes (ended laws.alone g.key g.worker after mid new items on goes) in
      laws.step_is (givens_in g world) (record {}) (words_from next.word) (serials_from next.serial) (record { words = 0; serials = 0 })
      (calling g.now seat.connection container link next) (record (event.mid) { connection = new }) bytes items (functions laws.event g seat container lanes next (record {}))
      (first-word next.word small) (omega arith) (record {
        mid = event.mid;
        calls = event.calls;
        through = came.0;
        alone = subst (λ (s : Shepherd ActionCall). GoesAloneThrough (λ (m : SiteMaker). IsMadeOf) (record {}) g.worker g.key came.0 s new items) (sym event.connection_is) came.1;
        rest = refl;
      })

  -- a world, field by field
  same-world : (boot boot' : BootValue) (since since' : List Event) (store store' : LanesState) (word word' serial serial' : ℕ)
      → boot ≡ boot' → since ≡ since' → store ≡ store' → word ≡ word' → serial ≡ serial'
      → (let a : SeatWorld = record { boot = boot; since = since; store = store; word = word; serial = serial } in a)
      ≡ (let b : SeatWorld = record { boot = boot'; since = since'; store = store'; word = word'; serial = serial' } in b)
  same-world boot boot' since since' store store' word word' serial serial' b s st w n =
      λ l. record { boot = b l; since = s l; store = st l; word = w l; serial = n l }

  pub stepped : (bytes : List ℕ) (items : List Item) (mid new : Shepherd ActionCall) (after : ContainerValue) (link_after : LaneLink) (next_after : NextDraws) (twin : Option ℕ) (store : LanesState) (report : Option FailureReport)
      → MakesEvent g seat.connection container link next bytes mid after link_after next_after → GoesOnAtSeat after mid → GoesAloneTwice g.key g.worker mid new items
      → (let t : Twinned = record { twin = twin; store = store } in t) ≡ twinned (way_in new.stage) seat.twin link_after.lanes → report ≡ report_at (turn seat.connection) mid.stage
      → (let o : SeatOutcome = record { seat = record { connection = new; twin = twin }; world = world_from after store next_after; bytes = bytes; items = items; report = report } in o)
      ≡ seat_step g seat world
  unfolding seat_step
  stepped bytes items mid new after link_after next_after twin store report event on goes twins reported =
      let leaves = left bytes items mid new after link_after next_after event on goes in
      let o : Outcome ActionCall LaneLink = step (givens_in g world) (seen_by seat world) in
      let x : World ActionCall LaneLink = world_of (record (event.mid) { connection = new }) o.world.drawn in
      let reports : report ≡ seat_report g seat world =
      reported ∙ ap (λ (s : Shepherd ActionCall). report_at (turn seat.connection) s.stage) (mid-is laws.event g seat container lanes next small bytes mid after link_after next_after event) in
      let before : SeatOutcome = record { seat = record { connection = new; twin = seat.twin }; world = world_from after link_after.lanes next_after; bytes = bytes; items = items; report = report } in
      let with_world : SeatWorld → SeatOutcome = λ w. record { seat = record { connection = new; twin = seat.twin }; world = w; bytes = bytes; items = items; report = report } in
      let worlds = same-world after.boot event.mid.container.boot after.since event.mid.container.since link_after.lanes (record (event.mid.link.lanes) { windows = event.mid.windows })
      next_after.word ((next.word + o.world.drawn.words) % (2 ^ 64)) next_after.serial (next.serial + o.world.drawn.serials)
      (ap (λ (c : ContainerValue). c.boot) (sym event.container_is)) (ap (λ (c : ContainerValue). c.since) (sym event.container_is)) event.lanes_are
      (sym event.word_is ∙ leaves.random_is) (sym event.serial_is ∙ leaves.serials_is) in
      let is : before ≡ unsynced seat.twin world (seat_report g seat world) o =
      ap with_world worlds
      ∙ (ap (λ (w : World ActionCall LaneLink). unsynced seat.twin world report (record { world = w; bytes = bytes; items = items })) leaves.world_is
      ∙ (ap (λ (b : List ℕ). unsynced seat.twin world report (record { world = o.world; bytes = b; items = items })) leaves.bytes_are
      ∙ (ap (λ (i : List Item). unsynced seat.twin world report (record { world = o.world; bytes = o.bytes; items = i })) leaves.items_are
      ∙ ap (λ (r : Option FailureReport). unsynced seat.twin world r o) reports))) in
      ap (λ (t : Twinned). with_twin t before) twins ∙ ap synced is
