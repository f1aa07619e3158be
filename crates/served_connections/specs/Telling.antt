-- What the course of a connection tells of what was served over it, once it has ended.
use Rattle.std.specs.Prelude.{◌≡◌, ◌↔◌, ◌⊎◌, ◌≢◌, ◌≤◌, ◌<◌, ℕ, true, List, [], ◌∷◌, ◌++◌, All, length, take, Option, Some, option_map}
use Rattle.auction_calls.specs.declared.action.ActionCall.{ActionCall}
use Rattle.boot_core.specs.declared.boot.Start.{Start}
use Rattle.call_ticket.specs.declared.next.Answer.{Answer}
use Rattle.call_ticket.specs.declared.next.Next.{Next}
use Rattle.container_core.specs.History.{entries_in}
use Rattle.container_core.specs.declared.history.Event.{Event}
use Rattle.crash_base.specs.declared.numbers.Place.{Place}
use Rattle.http_wire.specs.Requests.{Requests, requests}
use Rattle.http_wire.specs.declared.taken.Head.{Head}
use Rattle.outcome_items.specs.Traces.{is_outside}
use Rattle.outcome_items.specs.declared.item.Holds.{Holds}
use Rattle.outcome_items.specs.declared.item.Item.{Item}
use Rattle.outside.specs.declared.link.LinkEvent.{LinkEvent}
use Rattle.request_decisions.specs.declared.draws.Draw.{Draw}
use Rattle.request_intake.specs.Intakes.{Gives, Looks}
use Rattle.request_intake.specs.declared.intake.Admission.{Admission}
use Rattle.request_intake.specs.declared.intake.Arrival.TheVariants.{Admitted}
use Rattle.request_tries.specs.Ends.{Errand}
use Rattle.request_tries.specs.declared.outcome.RequestOutcome.{RequestOutcome}
use Rattle.request_visit.specs.Accounts.{EndsWith}
use Rattle.request_visit.specs.Advancing.{value_of}
use Rattle.request_visit.specs.Sessions.{IsKnown}
use Rattle.request_visit.specs.declared.facts.VisitFacts.{VisitFacts}
use Rattle.send_windows.specs.declared.history.WindowMark.{WindowMark}
use Rattle.send_windows.specs.declared.history.WindowMark.TheVariants as mark
use Rattle.served_items.specs.Attributing.{IsErrandOf, Service, TakenIn, WasTakenIn, facts_by, read_by}
use Rattle.session_way.specs.declared.lease.SessionLease.{SessionLease}
use Rattle.served_items.specs.Counting.{CountOn}
use Rattle.served_items.specs.Following.{FollowOn, KeepFront}
use Rattle.served_items.specs.Holding.{HoldOn, furthest}
use Rattle.served_items.specs.Served.{AreServed, committed_at}
use Rattle.shepherd.specs.Accounting.{IsAccountedFor}
use Rattle.shepherd.specs.Answering.{AreResponses}
use Rattle.shepherd.specs.Standing.{all_before, ending_of, last_of}
use Rattle.shepherd.specs.Stopping.{AreOfOne}
use Rattle.shepherd.specs.declared.shepherd.EndKind.{EndKind}
use Rattle.served_connections.specs.Behind.{ItemBehind}
use Rattle.served_connections.specs.Courses.{Begun, Course}
use Rattle.served_connections.specs.Heard.{AreCallsOf, HeardIn}
use Rattle.served_connections.specs.Findings.{AreFoundFor}
use Rattle.served_connections.specs.Full.{full_in}
use Rattle.served_connections.specs.Spent.{spent_in}

-- An item tells how far the history had come when the container was last held for its request: it was held for those
-- requests alone that came to it; the journal had so many entries then as the item's front says; and the entry that the
-- item names is one of those.
pub record TellsHolds (history : List Event) (i : Item) : Type 0 where
  pub unheld : (i.holds.held ≡ 0) ↔ (is_outside i.outcome ≡ true)
  pub front_is : i.holds.held ≢ 0 → length (entries_in (take i.holds.held history)) ≡ i.holds.front.0
  pub below : (place : Place) → committed_at i.outcome ≡ Some place → place.0 < i.holds.front.0

-- What was served over a connection. The heads of the requests that were taken off its bytes begin those of all its
-- bytes, whatever follows. Its items are for the first of them, in order, each once, and each tells what was served of
-- its own request. What it put out are the responses to its items, in order, and then `last`. What it added and left is
-- what its items tell, in order, and then `open_own` and `open_marks`. No item is older than what the connection had
-- seen when it began, or than the item before, and none began behind fewer entries than there were then; and the link's
-- counts rise from item to item. The serial numbers that were found spent are those that its items tell of, in order,
-- and so are the windows that were full where passes were refused. What its items tell of their sessions is so over the
-- calls of the link that it made.
pub record HasServed {P L M R S : Type 0} (asks : P → List Answer → Next) (calls : L → LinkEvent → L → Type 0) (makes : M → ActionCall → List ℕ → P → Type 0) (gives : Gives R) (looks : Looks S) (service : Service M) (start : Start) (begun : Begun) (history : List Event) (now : ℕ) (c : Course) (opened : List Head) (last : List ℕ) (open_own : List Event) (open_marks : List WindowMark) : Type 0 where
  pub heads : List Head
  pub requests_are : (more : List ℕ) → (behind : Requests) × (requests (c.fed ++ more) ≡ all_before heads behind)
  pub responses : AreResponses service.key history heads c.written c.items opened last
  pub accounted : IsAccountedFor start history c.own c.marks c.items open_own open_marks
  pub served : AreServed asks (HeardIn c.heard) makes gives looks service start history heads c.drawn begun.moment now c.items
  pub hold_on : HoldOn begun.events c.items
  pub within : furthest begun.events c.items ≤ length history
  pub holds : All (TellsHolds history) c.items
  pub begin : All (ItemBehind begun.entries) c.items
  pub looked : AreFoundFor spent_in c.looked c.items opened
  pub full : AreFoundFor full_in c.full c.items opened
  pub called : AreCallsOf calls c.heard
  pub count_on : CountOn begun.counts c.items
  pub follow : FollowOn (record { 0 = 0 }) c.items
  pub keep : KeepFront (record { 0 = 0 }) c.items

-- A connection has served each request whose response it has put out whole: it added and left what its items tell, and
-- nothing besides.
abbrev pub HasServedWhole : {P L M R S : Type 0} → (P → List Answer → Next) → (L → LinkEvent → L → Type 0) → (M → ActionCall → List ℕ → P → Type 0) → Gives R → Looks S → Service M → Start → Begun → List Event → ℕ → Course → List ℕ → Type 0
HasServedWhole asks calls makes gives looks service start begun history now c last =
    HasServed asks calls makes gives looks service start begun history now c [] last [] []

-- A connection has ended so: it has served all requests of its bytes, and put out the last response behind theirs, if
-- there is one.
pub record HasEnded {P L M R S : Type 0} (asks : P → List Answer → Next) (calls : L → LinkEvent → L → Type 0) (makes : M → ActionCall → List ℕ → P → Type 0) (gives : Gives R) (looks : Looks S) (service : Service M) (start : Start) (begun : Begun) (history : List Event) (now : ℕ) (c : Course) (end : EndKind) : Type 0 where
  pub whole : HasServedWhole asks calls makes gives looks service start begun history now c (last_of end)
  pub all : requests c.fed ≡ record { heads = whole.heads; ending = ending_of end }

-- A connection has served all requests of the bytes that came so far, and put out just the responses to its items.
pub record HasServedToHere {P L M R S : Type 0} (asks : P → List Answer → Next) (calls : L → LinkEvent → L → Type 0) (makes : M → ActionCall → List ℕ → P → Type 0) (gives : Gives R) (looks : Looks S) (service : Service M) (start : Start) (begun : Begun) (history : List Event) (now : ℕ) (c : Course) : Type 0 where
  pub whole : HasServedWhole asks calls makes gives looks service start begun history now c []
  pub all : (requests c.fed).heads ≡ whole.heads

-- What one more request has added, whose item is not told: it was taken in and admitted, and is the one of these heads,
-- for which numbers were drawn last; and this is what its end in the container adds, by an errand that was made of its
-- own call, as the user of its own session asks for it.
pub record HasAddedMore {P L : Type 0} (asks : P → List Answer → Next) (calls : L → LinkEvent → L → Type 0) (makes : ActionCall → List ℕ → P → Type 0) (taken_so : TakenIn → Type 0) (start : Start) (history : List Event) (opened : List Head) (drawn : List Draw) (own : List Event) : Type 0 where
  pub came : TakenIn
  pub came_so : taken_so came
  pub opened_is : opened ≡ came.head ∷ []
  pub before : List Draw
  pub drawn_are : drawn ≡ before ++ came.intake.drawn
  pub admission : Admission
  pub arrived : came.intake.arrival ≡ Admitted admission
  pub lease : Option SessionLease
  pub known : IsKnown calls (read_by came.intake.now came.intake.arrival) lease
  pub value : Option (List ℕ)
  pub value_is : value ≡ option_map value_of lease
  pub errand : Errand
  pub own_call : IsErrandOf asks makes value errand admission
  pub facts : VisitFacts
  pub facts_are : facts ≡ facts_by facts.front came.head came.intake.now came.intake.arrival
  pub holds : Holds
  pub end : RequestOutcome
  pub ends : EndsWith start history errand facts holds end own

-- A connection has stopped where memory was wanted, and all that it held was given back: it has served the first
-- requests of its bytes, and put out nothing for another one; for that one it has added one event at most, which is of
-- its own call, and left the marks of one request, with no passes unspent.
pub record HasStopped {P L M R S : Type 0} (asks : P → List Answer → Next) (calls : L → LinkEvent → L → Type 0) (makes : M → ActionCall → List ℕ → P → Type 0) (gives : Gives R) (looks : Looks S) (service : Service M) (start : Start) (begun : Begun) (history : List Event) (now : ℕ) (c : Course) : Type 0 where
  pub opened : List Head
  pub open_own : List Event
  pub open_marks : List WindowMark
  pub served : HasServed asks calls makes gives looks service start begun history now c opened [] open_own open_marks
  pub few : length open_own ≤ 1
  pub more : (open_own ≡ []) ⊎ HasAddedMore asks (HeardIn c.heard) (makes service.maker) (WasTakenIn gives looks service.key service.home) start history opened c.drawn open_own
  pub of_one : AreOfOne open_marks
  pub spent : open_marks ≢ mark.Taken 0 ∷ []
