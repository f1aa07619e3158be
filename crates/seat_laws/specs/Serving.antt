-- A connection of a scenario that serves its requests: what it put out, its items, and what was drawn for them.
use Rattle.std.specs.Prelude.{◌≡◌, ℕ, not, false, Option, Some, None, List, [], ◌∷◌, ◌++◌, take}
use Rattle.std.specs.List.{count_by}
use Rattle.std.specs.Option.{option_to_list}
use Rattle.auction_calls.specs.Texts.{Spells}
use Rattle.auction_calls.specs.declared.action.ActionCall.{ActionCall}
use Rattle.auction_site.specs.Actions.{steps_of}
use Rattle.boot_core.specs.Boot.{BootValue}
use Rattle.boot_core.specs.declared.boot.Start.{Start}
use Rattle.container_core.specs.History.{entries_in}
use Rattle.container_core.specs.declared.history.Event.{Event}
use Rattle.container_core.specs.declared.history.Event.TheVariants.{Started}
use Rattle.crash_base.specs.declared.numbers.Moment.{Moment}
use Rattle.crash_base.specs.declared.numbers.Place.{Place}
use Rattle.failure_scores.specs.declared.report.FailureReport.{FailureReport}
use Rattle.http_wire.specs.declared.taken.Head.{Head}
use Rattle.lane_link.specs.Links.{LaneLinkMakes}
use Rattle.outcome_items.specs.declared.item.Item.{Item}
use Rattle.outside.specs.Random.{PlainGives}
use Rattle.outside.specs.Serials.{PlainLooks}
use Rattle.request_decisions.specs.Calls.{call_by}
use Rattle.request_decisions.specs.Drawing.{HasDrawn}
use Rattle.request_decisions.specs.Draws.{is_serial}
use Rattle.request_decisions.specs.declared.draws.Draw.{Draw}
use Rattle.request_intake.specs.declared.intake.Admission.{Admission}
use Rattle.request_intake.specs.declared.intake.Arrival.TheVariants.{Admitted}
use Rattle.request_tries.specs.Ends.{Errand, done_at}
use Rattle.request_tries.specs.declared.outcome.RequestOutcome.TheVariants.{Page}
use Rattle.request_visit.specs.Sessions.{IsOrderOf}
use Rattle.request_visit.specs.declared.visit.Fate.{Fate}
use Rattle.request_visit.specs.declared.visit.Fate.TheVariants.{Known, Writing}
use Rattle.request_visit.specs.declared.visit.Visit.{Visit}
use Rattle.request_visit.specs.declared.visit.Work.{Work}
use Rattle.request_visit.specs.declared.visit.Work.TheVariants.{Reading, Opening, Serving as ServingBy, Committed, Decided, Answered, Left}
use Rattle.served_items.specs.Attributing.{Attributing, Service}
use Rattle.served_items.specs.Following.{FollowOn}
use Rattle.served_items.specs.Holding.{Holding}
use Rattle.served_items.specs.Served.{AreServed, ServedItem}
use Rattle.session_way.specs.declared.session_write.WriteOrder.{WriteOrder}
use Rattle.shepherd.specs.declared.shepherd.Shepherd.{Shepherd}
use Rattle.site_programs.specs.Errands.{IsMadeOf}
use Rattle.site_programs.specs.Pages.{IsMeantThere, end_in}
use Rattle.site_programs.specs.declared.maker.SiteMaker.{SiteMaker}
use Rattle.seat_steps.specs.Answering.{SeatAnswers}
use Rattle.seat_steps.specs.Seats.{SeatOutcome, SeatWorld, home_in}
use Rattle.seat_laws.specs.Reads.{value_written}
use Rattle.seat_laws.specs.Reporting.{HasReported}

-- what the requests of a boot are served by: the key of the service, the boot, and the programs of the site
abbrev pub service_of : List ℕ → BootValue → Service SiteMaker
service_of key boot = record { key = key; home = home_in boot; maker = record {} }

-- How far a connection has come: at which moment it opened, and behind how many events of the history; then the bytes
-- that were fed to it, what was drawn for its requests, what it put out, its items, and what it reported of requests
-- that failed, each in order.
pub record Course : Type 0 where
  pub opened : Moment
  pub behind : ℕ
  pub fed : List ℕ
  pub drawn : List Draw
  pub written : List ℕ
  pub items : List Item
  pub reports : List FailureReport

-- a connection that opens at a moment, behind a history of so many events
abbrev pub opening : Moment → ℕ → Course
opening now behind = record { opened = now; behind = behind; fed = []; drawn = []; written = []; items = []; reports = [] }

-- the history of the container of a boot: its start, and the events since
abbrev pub history_in : BootValue → List Event → List Event
history_in boot since = Started boot.start ∷ since

-- A connection serves its requests, over the history of its container and up to this moment. What it put out are the
-- responses to its items, in order, and its items are for the requests of its bytes, in order, each once. Each item
-- goes back to its own request: to what was decided of it, and drawn for it, in order. No item's moment is before the
-- connection opened, or before that of the item before it; and none is older than what the connection had seen. What it
-- reported are the reports of its items, in order, each once, and that of the request that is open, if it has failed.
pub record SeatServes (key : List ℕ) (boot : BootValue) (since : List Event) (now : Moment) (c : Course) (s : Shepherd ActionCall) : Type 0 where
  pub heads : List Head
  pub answers : SeatAnswers key (history_in boot since) c.fed heads c.written c.items s
  pub attributes : Attributing steps_of LaneLinkMakes (λ (maker : SiteMaker). IsMadeOf) PlainGives PlainLooks (service_of key boot) boot.start (history_in boot since) heads c.drawn c.opened.0 now.0 c.items s
  pub holds : Holding c.behind (history_in boot since) c.items s
  pub reported : HasReported c.reports c.items s.stage

-- The items of a connection follow on one another, from its first one on: the journal was no shorter when the container
-- was first held for each than when it was last held for the one before.
abbrev pub ItemsFollow : Course → Type 0
ItemsFollow c = FollowOn (record { 0 = 0 }) c.items

-- The items of a connection are served: they are for the requests of these heads, in order, and each tells what was
-- served of its own request, over the history of the container and up to this moment.
abbrev pub ItemsAreServed : List ℕ → BootValue → List Event → Moment → Course → List Head → Type 0
ItemsAreServed key boot since now c heads =
    AreServed steps_of LaneLinkMakes (λ (maker : SiteMaker). IsMadeOf) PlainGives PlainLooks (service_of key boot) boot.start (history_in boot since) heads c.drawn c.opened.0 now.0 c.items

-- A page of its own of an item is what the site means by the call of its request: the request was admitted, and the
-- entry at the page's place bears its number and the text of that call, and wrote and answers what the site means by it
-- over the rows just before.
abbrev pub PageIsMeant : Start → List Event → ServedItem → Type 0
PageIsMeant start history x = (place : Place) → end_in x.item.outcome ≡ Some (Page place false)
    → (a : Admission) × (x.taken.intake.arrival ≡ Admitted a)
    × (errand : Errand) × (errand.request ≡ a.request) × Spells errand.text (call_by a.call x.item.value)
    × IsMeantThere start.base (entries_in history) place errand (call_by a.call x.item.value)

-- the page behind which a session is written, by what is told of its request so far
abbrev pub page_by_fate : Fate → Option Place
page_by_fate (Known became) = None
page_by_fate (Writing place again) = Some place

-- the place of the entry of the page behind which a session is written, or was
abbrev pub page_written : Work ActionCall → Option Place
page_written Reading = None
page_written Opening = None
page_written (ServingBy tries program) = None
page_written (Committed place again shown) = Some place
page_written (Decided became) = None
page_written (Answered fate bytes) = page_by_fate fate
page_written (Left fate) = page_by_fate fate

-- A request writes its session behind its page: the bricks are asked to keep the value that the entry of the page sets
-- or, where that sets none, the one that was read, for half an hour.
pub record WritesPage (history : List Event) (v : Visit ActionCall) : Type 0 where
  pub place : Place
  pub page_is : page_written v.work ≡ Some place
  pub order : WriteOrder
  pub is_order : IsOrderOf v.facts v.lease (done_at (entries_in (take v.holds.held history)) place) order
  pub asked : value_written v.way ≡ order.value

-- A step drew these numbers, one after another: each was the next one in the world, of the serial numbers or of the
-- random words.
abbrev pub DrewNext : SeatWorld → List Draw → SeatWorld → Type 0
DrewNext w drawn after = HasDrawn PlainLooks PlainGives w.serial w.word drawn after.serial after.word

-- how many serial numbers are among what was drawn
abbrev pub serials_among : List Draw → ℕ
serials_among drawn = count_by (λ (d : Draw). is_serial d.kind) drawn

-- how many random words are
abbrev pub words_among : List Draw → ℕ
words_among drawn = count_by (λ (d : Draw). not (is_serial d.kind)) drawn

-- what a step adds to how far a connection has come: what was drawn in it, what it put out, its items, and its report,
-- if it made one
abbrev pub course_behind : Course → List Draw → SeatOutcome → Course
course_behind c drawn o = record c {
  drawn = c.drawn ++ drawn;
  written = c.written ++ o.bytes;
  items = c.items ++ o.items;
  reports = c.reports ++ option_to_list o.report;
}
