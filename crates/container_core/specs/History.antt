-- The history of a container: its start, its entries, and the marks between them.
use Rattle.std.specs.Prelude.{◌≡◌, ℕ, ◌-◌, ◌≤◌, Bool, true, false, List, [], ◌∷◌, ◌++◌, length, map, take, drop}
use Rattle.std.specs.List.{flat_map, list_any, filter}
use Rattle.crash_base.specs.declared.numbers.Place.{Place}
use Rattle.crash_base.specs.declared.numbers.RequestNo.{RequestNo}
use Rattle.boot_core.specs.declared.refusals.CommitRefusal.{CommitRefusal}
use Rattle.boot_core.specs.declared.refusals.CommitRefusal.TheVariants as commits
use Rattle.journal_model.specs.declared.entry.Entry.{Entry}
use Rattle.container_core.specs.declared.history.Event.{Event}
use Rattle.container_core.specs.declared.history.Event.TheVariants.{Started, Added, KeeperFailed, Stopped}
use Rattle.container_core.specs.declared.history.HistoryMark.{HistoryMark}
use Rattle.container_core.specs.declared.history.MarkedEvent.{MarkedEvent}
use Rattle.container_core.specs.declared.history.MarkedEvent.TheVariants as marked

-- the entry that an event is, if it is one
abbrev pub entry_in : Event → List Entry
entry_in (Started start) = []
entry_in (Added e) = e ∷ []
entry_in (KeeperFailed request) = []
entry_in Stopped = []

-- the entries among events, which are the journal
abbrev pub entries_in : List Event → List Entry
entries_in events = flat_map entry_in events

-- whether an event is the mark of a stop
abbrev pub is_stop : Event → Bool
is_stop (Started start) = false
is_stop (Added e) = false
is_stop (KeeperFailed request) = false
is_stop Stopped = true

-- whether the container was stopped
abbrev pub is_stopped : List Event → Bool
is_stopped events = list_any is_stop events

-- whether an event is a start
abbrev pub is_start : Event → Bool
is_start (Started start) = true
is_start (Added e) = false
is_start (KeeperFailed request) = false
is_start Stopped = false

-- Events that may follow the start of a container: none is another start, and at most one is a stop.
pub record IsHistory (since : List Event) : Type 0 where
  pub starts : filter is_start since ≡ []
  pub stops : length (filter is_stop since) ≤ 1

-- the event of a mark
abbrev pub event_of : MarkedEvent → Event
event_of (marked.KeeperFailed request) = KeeperFailed request
event_of marked.Stopped = Stopped

-- the events from a place on: the entries, and each mark after those that were there before it
abbrev pub laid : ℕ → List Entry → List HistoryMark → List Event
laid from es [] = map Added (drop from es)
laid from es (m ∷ ms) =
    map Added (take (m.place.0 - from) (drop from es)) ++ event_of m.event ∷ laid m.place.0 es ms

-- The marks are in order of their places, from one place to another.
abbrev pub AreLaid : ℕ → List HistoryMark → ℕ → Type 0
AreLaid from [] n = from ≤ n
AreLaid from (m ∷ ms) n = (from ≤ m.place.0) × AreLaid m.place.0 ms n

-- a mark at a place
abbrev pub mark_at : Place → MarkedEvent → HistoryMark
mark_at place event = record { place = place; event = event }

-- the marks of a history, and how many more have memory beside the one of the stop
pub record HistoryValue : Type 0 where
  pub marks : List HistoryMark
  pub spare : ℕ

-- whether a mark is that of a stop
abbrev pub is_stop_mark : HistoryMark → Bool
is_stop_mark m = is_stop (event_of m.event)

-- whether a stop is among the marks
abbrev pub has_stop : List HistoryMark → Bool
has_stop marks = list_any is_stop_mark marks

-- how many stops are among the marks
abbrev pub stop_count : List HistoryMark → ℕ
stop_count marks = length (filter is_stop_mark marks)

-- the marks after a commit that was refused for this cause: a keeper that failed is marked
abbrev pub marks_after : CommitRefusal → Place → RequestNo → List HistoryMark → List HistoryMark
marks_after commits.KeeperFailed place request marks =
    marks ++ mark_at place (marked.KeeperFailed request) ∷ []
marks_after commits.OutOfMemory place request marks = marks
marks_after (commits.Already at) place request marks = marks
marks_after (commits.Revoked s) place request marks = marks
marks_after (commits.Conflict c) place request marks = marks
marks_after (commits.JournalFull full) place request marks = marks
