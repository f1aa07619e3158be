-- What a connection added to the history of the container, and the marks that it left in that of the windows, by its
-- items and by the request that is open.
use Rattle.std.specs.Prelude.{◌≡◌, List, [], ◌++◌, map, take, All, Option, Some, IfSome}
use Rattle.std.specs.List.{flat_map}
use Rattle.boot_core.specs.declared.boot.Start.{Start}
use Rattle.call_ticket.specs.declared.next.Answer.{Answer}
use Rattle.call_ticket.specs.declared.next.Next.{Next}
use Rattle.container_core.specs.Container.{ContainerValue, events_of}
use Rattle.container_core.specs.History.{entries_in}
use Rattle.container_core.specs.declared.history.Event.{Event}
use Rattle.outcome_items.specs.Traces.{event_trace, uncounted, window_traces}
use Rattle.outcome_items.specs.declared.item.Item.{Item}
use Rattle.request_tries.specs.Ends.{Errand}
use Rattle.request_visit.specs.Accounts.{Accounts, Became}
use Rattle.request_visit.specs.Advancing.{IsItemOf}
use Rattle.request_visit.specs.Marks.{Marks}
use Rattle.request_visit.specs.Visits.{turn as visit_turn}
use Rattle.request_visit.specs.declared.facts.VisitFacts.{VisitFacts}
use Rattle.request_visit.specs.declared.visit.Turn.TheVariants as visit
use Rattle.request_visit.specs.declared.visit.Visit.{Visit}
use Rattle.send_windows.specs.Windows.{WindowsValue}
use Rattle.send_windows.specs.declared.history.WindowMark.{WindowMark}
use Rattle.shepherd.specs.declared.shepherd.AskedCall.{AskedCall}
use Rattle.shepherd.specs.declared.shepherd.Shepherd.{Shepherd}
use Rattle.shepherd.specs.declared.shepherd.Stage.{Stage}
use Rattle.shepherd.specs.declared.shepherd.Stage.TheVariants.{Resting, Serving, Refusing, Over}

-- a request that was served: how it was at its end, its item, what it asked of the container, and its part of each list
pub record Told (P : Type 0) : Type 0 where
  pub visit : Visit P
  pub item : Item
  pub errand : Errand
  pub own : List Event
  pub marks : List WindowMark

-- their items
abbrev pub told_items : {P : Type 0} → List (Told P) → List Item
told_items {P} told = map (λ (t : Told P). t.item) told

-- what they added to the history
abbrev pub told_events : {P : Type 0} → List (Told P) → List Event
told_events {P} told = flat_map (λ (t : Told P). t.own) told

-- the marks that they left
abbrev pub told_marks : {P : Type 0} → List (Told P) → List WindowMark
told_marks {P} told = flat_map (λ (t : Told P). t.marks) told

-- A request that was served accounts for its part in a history.
pub record IsTold {P : Type 0} (asks : P → List Answer → Next) (start : Start) (history : List Event) (t : Told P) : Type 0 where
  pub over : visit_turn t.visit ≡ visit.Over
  pub is_item : IsItemOf t.visit t.visit.work t.item
  pub accounts : Accounts asks start history t.errand t.own t.visit
  pub marks_are : Marks t.marks t.visit

-- The request that is open accounts for what it has added and left so far; its call has its number.
pub record Tells {P : Type 0} (asks : P → List Answer → Next) (start : Start) (history own : List Event) (marks : List WindowMark) (v : Visit P) (call : Option AskedCall) : Type 0 where
  pub errand : Errand
  pub accounts : Accounts asks start history errand own v
  pub marks_are : Marks marks v
  pub number : IfSome call (λ (a : AskedCall). v.facts.request ≡ Some a.request)

-- the same of a stage: where no request is open, nothing else was added
abbrev pub StageTells : {P : Type 0} → (P → List Answer → Next) → Start → List Event → List Event → List WindowMark → Stage P → Type 0
StageTells asks start history own marks Resting = (own ≡ []) × (marks ≡ [])
StageTells asks start history own marks (Serving v call) = Tells asks start history own marks v call
StageTells asks start history own marks (Refusing why bytes) = (own ≡ []) × (marks ≡ [])
StageTells asks start history own marks (Over end) = (own ≡ []) × (marks ≡ [])

-- A connection accounts for what it added to the history of the container, and for the marks that it left in that of
-- the windows, with the numbers of passes left out: they are those of its items, in order, and then those of the
-- request that is open.
pub record Accounting {P : Type 0} (asks : P → List Answer → Next) (start : Start) (history own : List Event) (marks : List WindowMark) (items : List Item) (s : Shepherd P) : Type 0 where
  pub told : List (Told P)
  pub open_own : List Event
  pub open_marks : List WindowMark
  pub items_are : items ≡ told_items told
  pub stand : All (IsTold asks start history) told
  pub own_is : own ≡ told_events told ++ open_own
  pub marks_are : marks ≡ told_marks told ++ open_marks
  pub tells : StageTells asks start history open_own open_marks s.stage

-- the event that an item tells of, over the history as it was when the container was last held for it
abbrev pub trace_in : List Event → Item → List Event
trace_in history i = event_trace (entries_in (take i.holds.held history)) i

-- the events that items tell of, in order
abbrev pub traces_in : List Event → List Item → List Event
traces_in history items = flat_map (trace_in history) items

-- An item stands in a history: this became of its request, at its moment and under its number, and it added just what
-- the item tells.
pub record ItemStands (start : Start) (history : List Event) (i : Item) : Type 0 where
  pub errand : Errand
  pub facts : VisitFacts
  pub request_is : i.request ≡ facts.request
  pub moment_is : i.moment ≡ facts.now
  pub became : Became start history errand facts i.holds (trace_in history i) i.outcome

-- A connection's own events and marks are those that its items tell of, in order, and then what the request that is
-- open has added and left; and each item stands.
pub record IsAccountedFor (start : Start) (history own : List Event) (marks : List WindowMark) (items : List Item) (open_own : List Event) (open_marks : List WindowMark) : Type 0 where
  pub events : own ≡ traces_in history items ++ open_own
  pub marks_are : marks ≡ window_traces items ++ open_marks
  pub stand : All (ItemStands start history) items

-- A step in the container added these events, and the connection accounts for them.
pub record AddsEvents {P : Type 0} (asks : P → List Answer → Next) (own : List Event) (marks : List WindowMark) (items : List Item) (container after : ContainerValue) (new : Shepherd P) : Type 0 where
  pub added : List Event
  pub grown : after.since ≡ container.since ++ added
  pub accounts : Accounting asks after.boot.start (events_of after) (own ++ added) marks items new

-- A step of the windows left these marks, and the connection accounts for them.
pub record LeavesMarks {P : Type 0} (asks : P → List Answer → Next) (start : Start) (history own : List Event) (marks : List WindowMark) (items : List Item) (windows after : WindowsValue) (new : Shepherd P) : Type 0 where
  pub added : List WindowMark
  pub grown : after.history ≡ windows.history ++ added
  pub accounts : Accounting asks start history own (marks ++ map uncounted added) items new
