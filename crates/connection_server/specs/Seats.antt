-- What threads share to serve connections, and the seats of one of them.
use Rattle.std.specs.Prelude.{◌≡◌, ◌+◌, ◌<◌, ◌≤◌, ℕ, false, List, [], ◌∷◌, ◌++◌, length, slice_get, option_to_list, All}
use mathlib.Core.List.{IsPrefix}
use Rattle.atomic_table.specs.Seated.{TableId}
use Rattle.auction_rows.specs.Parts.{site_parts}
use Rattle.boot_core.specs.declared.boot.Start.{Start}
use Rattle.container_core.specs.Container.{ContainerValue}
use Rattle.container_core.specs.declared.history.Event.{Event}
use Rattle.container_core.specs.declared.history.Event.TheVariants.{Started}
use Rattle.request_intake.specs.declared.intake.HomeBoot.{HomeBoot}
use Rattle.send_windows.specs.declared.history.WindowMark.{WindowMark}
use Rattle.report_queue.specs.Passes.{PassValue}
use Rattle.shared_words.specs.Words.{WordSeatValue, WordsValue}
use Rattle.site_locks.specs.Holds.{Tells}
use Rattle.turn_lock.specs.Seats.{LockValue, SeatValue}

-- What is shared is of this container, these windows, these words, and this queue of reports.
pub record SharedIds : Type 0 where
  pub container : TableId
  pub windows : TableId
  pub words : TableId
  pub reports : TableId

-- the same of the locks, the words and the queue
abbrev pub ids_of : LockValue → LockValue → WordsValue → TableId → SharedIds
ids_of container windows words reports =
    record { container = container.id; windows = windows.id; words = words.id; reports = reports }

-- Seats are of what is shared: neither the container nor the windows are out with them.
pub record AreSeatsOf (ids : SharedIds) (container : SeatValue Event) (windows : SeatValue WindowMark) (words : WordSeatValue) (pass : PassValue Unit) : Type 0 where
  pub container_is : container.lock ≡ ids.container
  pub container_home : container.holds ≡ false
  pub windows_are : windows.lock ≡ ids.windows
  pub windows_home : windows.holds ≡ false
  pub words_are : words.words ≡ ids.words
  pub pass_is : pass.queue ≡ ids.reports

-- What was seen is the history of a container of the site, in this boot.
pub record IsOfSite (home : HomeBoot) (seen : List Event) : Type 0 where
  pub container : ContainerValue
  pub tells : Tells seen container
  pub parts_are : container.boot.start.deployment ≡ site_parts
  pub boot_is : container.boot.start.boot ≡ home.boot

-- a history begins with this start
abbrev pub BeginsWith : Start → List Event → Type 0
BeginsWith start history = (since : List Event) × (history ≡ Started start ∷ since)

-- the events at places of a history
abbrev pub events_at : {E : Type 0} → List E → List ℕ → List E
events_at history [] = []
events_at history (place ∷ places) = option_to_list (slice_get history place) ++ events_at history places

-- places rise, from this one on
abbrev pub RiseFrom : ℕ → List ℕ → Type 0
RiseFrom least [] = Unit {0}
RiseFrom least (place ∷ places) = (least ≤ place) × RiseFrom (place + 1) places

-- A seat has its lock and its parts still, and its value is at home: it has seen more, and the events that it has added
-- stand at places of its own, behind what it had seen, in order.
pub record HasAdded {E : Type 0} (old new : SeatValue E) (added : List E) : Type 0 where
  pub lock_is : new.lock ≡ old.lock
  pub parts_are : new.parts ≡ old.parts
  pub home : new.holds ≡ false
  pub seen : IsPrefix old.seen new.seen
  pub places : List ℕ
  pub own : new.own ≡ old.own ++ places
  pub rise : RiseFrom (length old.seen) places
  pub within : All (λ (place : ℕ). place < length new.seen) places
  pub events : events_at new.seen places ≡ added
