-- What a hold of a lock leaves of its seat, and what a history tells of a container.
use Rattle.std.specs.Prelude.{◌≡◌, false, true, List, ◌++◌}
use mathlib.Core.List.{IsPrefix}
use Rattle.call_ticket.specs.declared.next.Answer.{Answer}
use Rattle.call_ticket.specs.declared.next.Next.{Next}
use Rattle.container_core.specs.Container.{ContainerValue, HasGrownBy, events_of}
use Rattle.container_core.specs.History.{entries_in}
use Rattle.container_core.specs.declared.history.Event.{Event}
use Rattle.deployment.specs.declared.parts.Parts.{Parts}
use Rattle.outside.specs.declared.link.LinkEvent.{LinkEvent}
use Rattle.send_windows.specs.Windows.{KeepLimits, WindowsValue}
use Rattle.send_windows.specs.declared.history.WindowMark.{WindowMark}
use Rattle.shepherd.specs.Going.{GoesOn}
use Rattle.shepherd.specs.declared.shepherd.Shepherd.{Shepherd}
use Rattle.turn_lock.specs.Seats.{SeatValue, new_places}

-- A history tells a container: it is the history of that container, and its entries are the journal.
pub record Tells (history : List Event) (container : ContainerValue) : Type 0 where
  pub events : events_of container ≡ history
  pub journal : entries_in container.since ≡ container.boot.entries

-- A connection goes on in a container that this history tells.
pub record GoesOnIn {P L : Type 0} (accepts : P → Parts → Type 0) (asks : P → List Answer → Next) (makes : L → LinkEvent → L → Type 0) (history : List Event) (s : Shepherd P) : Type 0 where
  pub container : ContainerValue
  pub tells : Tells history container
  pub goes_on : GoesOn accepts asks makes container s

-- One hold of a lock, whose value had this history when it was taken and that one when it was given back: the first
-- goes on from what the seat had seen, and begins the other. The seat has seen the other now, and the places of what
-- was added are its own, besides those that it had.
pub record IsHold {E : Type 0} (old new : SeatValue E) (before after : List E) : Type 0 where
  pub begun : IsPrefix old.seen before
  pub grown : IsPrefix before after
  pub seat : new ≡ record old { holds = false; seen = after; own = old.own ++ new_places before after }

-- A seat took a container, whose history goes on from what the seat had seen, and tells it.
pub record Takes (old : SeatValue Event) (container : ContainerValue) (new : SeatValue Event) : Type 0 where
  pub begun : IsPrefix old.seen (events_of container)
  pub told : Tells (events_of container) container
  pub seat : new ≡ record old { holds = true; seen = events_of container }

-- One hold of the lock of a container, which was this when it was taken and that when it was given back: its history
-- tells it both times, and it has grown.
pub record Holds (old new : SeatValue Event) (before after : ContainerValue) : Type 0 where
  pub hold : IsHold old new (events_of before) (events_of after)
  pub found : Tells (events_of before) before
  pub left : Tells (events_of after) after
  pub grown : HasGrownBy before after

-- A seat took windows, which keep their limits.
pub record TakesWindows (old : SeatValue WindowMark) (windows : WindowsValue) (new : SeatValue WindowMark) : Type 0 where
  pub begun : IsPrefix old.seen windows.history
  pub limits : KeepLimits windows
  pub seat : new ≡ record old { holds = true; seen = windows.history }

-- One hold of the lock of windows, which were these when they were taken and those when they were given back: they keep
-- their limits both times.
pub record HoldsWindows (old new : SeatValue WindowMark) (before after : WindowsValue) : Type 0 where
  pub hold : IsHold old new before.history after.history
  pub found : KeepLimits before
  pub left : KeepLimits after

-- There was one hold of the lock of a container, and this is so of what the container was before it and after.
abbrev pub InHold : SeatValue Event → SeatValue Event → (ContainerValue → ContainerValue → Type 0) → Type 0
InHold old new So = (before after : ContainerValue) × Holds old new before after × So before after

-- the same of the lock of windows
abbrev pub InWindowsHold : SeatValue WindowMark → SeatValue WindowMark → (WindowsValue → WindowsValue → Type 0) → Type 0
InWindowsHold old new So = (before after : WindowsValue) × HoldsWindows old new before after × So before after
