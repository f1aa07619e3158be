-- A connection that is served, whatever others do meanwhile in the container, in the windows and over the link.
use Rattle.std.specs.Prelude.{◌≡◌, ◌⊎◌, ℕ, false, List, ◌++◌, length, map, Option, None, option_to_list, IfSome}
use Rattle.auction_calls.specs.declared.action.ActionCall.{ActionCall}
use Rattle.boot_core.specs.declared.boot.Start.{Start}
use Rattle.call_ticket.specs.declared.next.Answer.{Answer}
use Rattle.call_ticket.specs.declared.next.Next.{Next}
use Rattle.container_core.specs.Container.{ContainerValue, events_of}
use Rattle.container_core.specs.History.{entries_in}
use Rattle.container_core.specs.declared.history.Event.{Event}
use Rattle.deployment.specs.declared.parts.Parts.{Parts}
use Rattle.http_wire.specs.declared.taken.Head.{Head}
use Rattle.outcome_items.specs.Traces.{uncounted}
use Rattle.outside.specs.Link.{Made}
use Rattle.outside.specs.declared.link.LinkCounts.{LinkCounts}
use Rattle.outside.specs.declared.link.LinkEvent.{LinkEvent}
use Rattle.request_decisions.specs.Drawing.{HasDrawn}
use Rattle.request_decisions.specs.declared.draws.Draw.{Draw}
use Rattle.request_intake.specs.Intakes.{Gives, Looks}
use Rattle.send_windows.specs.Windows.{WindowsValue}
use Rattle.send_windows.specs.declared.fact.WindowFact.{WindowFact}
use Rattle.send_windows.specs.declared.history.WindowMark.{WindowMark}
use Rattle.served_items.specs.Attributing.{Attributing, Service}
use Rattle.served_items.specs.Counting.{Counting}
use Rattle.served_items.specs.Following.{FollowOn, KeepFront}
use Rattle.served_items.specs.Holding.{Holding}
use Rattle.shepherd.specs.Accounting.{Accounting}
use Rattle.shepherd.specs.Answering.{Answering}
use Rattle.shepherd.specs.Going.{GoesOn}
use Rattle.shepherd.specs.Standing.{Standing}
use Rattle.shepherd.specs.declared.shepherd.Shepherd.{Shepherd}
use Rattle.served_connections.specs.Behind.{Beginning}
use Rattle.served_connections.specs.Courses.{Begun, Course}
use Rattle.served_connections.specs.Heard.{AreCallsOf, HeardIn}
use Rattle.served_connections.specs.Findings.{Finds}
use Rattle.served_connections.specs.Full.{IsFoundFull, full_in}
use Rattle.served_connections.specs.Spent.{IsFoundSpent, spent_in}

-- A connection goes on in a container of this start whose events are this history, and whose journal is their entries.
pub record GoesOnBehind {P L : Type 0} (accepts : P → Parts → Type 0) (asks : P → List Answer → Next) (calls : L → LinkEvent → L → Type 0) (start : Start) (history : List Event) (s : Shepherd P) : Type 0 where
  pub container : ContainerValue
  pub start_is : container.boot.start ≡ start
  pub events_are : events_of container ≡ history
  pub journal : entries_in container.since ≡ container.boot.entries
  pub goes_on : GoesOn accepts asks calls container s

-- A connection is served, over the history of its container, behind what its link has counted, and up to this moment of
-- the clock: memory was not wanted, and it goes on. Its items are for the requests of its bytes, in order, each once,
-- and what it put out are the responses to them. What it added to the history of the container and left in that of the
-- windows is what they tell, and what the request that is open has done. Each item goes back to its own request. None
-- is older than what the connection had seen, and none began behind fewer entries than it had seen; each follows on the
-- one before, and the link's counts rise with them. Each serial number that was found spent is one that they tell of,
-- and so are the windows that were full. What they tell of their sessions is so over the calls of the link that the
-- connection made.
pub record Serves {P L M R S : Type 0} (accepts : P → Parts → Type 0) (asks : P → List Answer → Next) (calls : L → LinkEvent → L → Type 0) (makes : M → ActionCall → List ℕ → P → Type 0) (gives : Gives R) (looks : Looks S) (service : Service M) (start : Start) (begun : Begun) (history : List Event) (counts : LinkCounts) (now : ℕ) (c : Course) (s : Shepherd P) : Type 0 where
  pub heads : List Head
  pub stands : Standing c.fed heads c.written c.items s
  pub answers : Answering service.key history heads c.written c.items s
  pub accounts : Accounting asks start history c.own c.marks c.items s
  pub attributes : Attributing asks (HeardIn c.heard) makes gives looks service start history heads c.drawn begun.moment now c.items s
  pub holds : Holding begun.events history c.items s
  pub counted : Counting begun.counts counts c.items s
  pub follow : FollowOn (record { 0 = 0 }) c.items
  pub keep : KeepFront (record { 0 = 0 }) c.items
  pub begin : Beginning begun.entries (length (entries_in history)) c.items s
  pub finds : Finds spent_in c.looked c.items s.stage
  pub full : Finds full_in c.full c.items s.stage
  pub called : AreCallsOf calls c.heard
  pub remembers : s.wants_memory ≡ false
  pub goes : GoesOnBehind accepts asks calls start history s

-- A connection is served that took the next request off its bytes, or none: it drew these numbers, one after another,
-- and looked at a serial number last where that is spent. Where the request is told so, it is told what was seen then.
pub record ServesNext {P L M R S : Type 0} (accepts : P → Parts → Type 0) (asks : P → List Answer → Next) (calls : L → LinkEvent → L → Type 0) (makes : M → ActionCall → List ℕ → P → Type 0) (gives : Gives R) (looks : Looks S) (service : Service M) (start : Start) (begun : Begun) (history : List Event) (counts : LinkCounts) (now : ℕ) (c : Course) (s : Shepherd P) (random random_after : R) (serials serials_after : S) : Type 0 where
  pub more : List Draw
  pub mid : S
  pub drew : HasDrawn looks gives serials random more mid random_after
  pub looked : (serials_after ≡ mid) ⊎ ((seen : ℕ) × looks mid seen None serials_after)
  pub spent : Option ℕ
  pub found : IfSome spent (λ seen. IsFoundSpent gives looks random serials seen random_after serials_after)
  pub serves : Serves accepts asks calls makes gives looks service start begun history counts now (record c { drawn = c.drawn ++ more; looked = c.looked ++ option_to_list spent }) s

-- A step in the container added these events, and the connection is served with them.
pub record ServesAdding {P L M R S : Type 0} (accepts : P → Parts → Type 0) (asks : P → List Answer → Next) (calls : L → LinkEvent → L → Type 0) (makes : M → ActionCall → List ℕ → P → Type 0) (gives : Gives R) (looks : Looks S) (service : Service M) (start : Start) (begun : Begun) (before after : ContainerValue) (counts : LinkCounts) (now : ℕ) (c : Course) (s : Shepherd P) : Type 0 where
  pub added : List Event
  pub grown : events_of after ≡ events_of before ++ added
  pub serves : Serves accepts asks calls makes gives looks service start begun (events_of after) counts now (record c { own = c.own ++ added }) s

-- A step in the windows left these marks, and found these full, if passes were refused at it; and the connection is
-- served with them.
pub record ServesAtWindows {P L M R S : Type 0} (accepts : P → Parts → Type 0) (asks : P → List Answer → Next) (calls : L → LinkEvent → L → Type 0) (makes : M → ActionCall → List ℕ → P → Type 0) (gives : Gives R) (looks : Looks S) (service : Service M) (start : Start) (begun : Begun) (history : List Event) (counts : LinkCounts) (now : ℕ) (c : Course) (s : Shepherd P) (windows after : WindowsValue) : Type 0 where
  pub added : List WindowMark
  pub grown : after.history ≡ windows.history ++ added
  pub told : Option (List WindowFact)
  pub found : IfSome told (λ full. IsFoundFull windows after full)
  pub serves : Serves accepts asks calls makes gives looks service start begun history counts now (record c { marks = c.marks ++ map uncounted added; full = c.full ++ option_to_list told }) s

-- Passes were given back in the windows, which left these marks, and the connection is served with them.
pub record ServesLeaving {P L M R S : Type 0} (accepts : P → Parts → Type 0) (asks : P → List Answer → Next) (calls : L → LinkEvent → L → Type 0) (makes : M → ActionCall → List ℕ → P → Type 0) (gives : Gives R) (looks : Looks S) (service : Service M) (start : Start) (begun : Begun) (history : List Event) (counts : LinkCounts) (now : ℕ) (c : Course) (s : Shepherd P) (windows after : WindowsValue) : Type 0 where
  pub added : List WindowMark
  pub grown : after.history ≡ windows.history ++ added
  pub serves : Serves accepts asks calls makes gives looks service start begun history counts now (record c { marks = c.marks ++ map uncounted added }) s

-- A step of the link made these calls, and the connection is served with them.
pub record ServesCalling {P L M R S : Type 0} (accepts : P → Parts → Type 0) (asks : P → List Answer → Next) (calls : L → LinkEvent → L → Type 0) (makes : M → ActionCall → List ℕ → P → Type 0) (gives : Gives R) (looks : Looks S) (service : Service M) (start : Start) (begun : Begun) (history : List Event) (counts : LinkCounts) (now : ℕ) (c : Course) (s : Shepherd P) (link after : L) : Type 0 where
  pub made : List LinkEvent
  pub leads : Made calls link made after
  pub serves : Serves accepts asks calls makes gives looks service start begun history counts now (record c { heard = c.heard ++ made }) s
