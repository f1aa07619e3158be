-- What the threads of a boot share, and the seats of one of them.
use Rattle.std.specs.Prelude.{◌≡◌, ◌≤◌, ℕ, List}
use mathlib.Core.List.{IsPrefix}
use Rattle.atomic_table.specs.Seated.{TableId}
use Rattle.connection_server.specs.Seats.{AreSeatsOf, ids_of}
use Rattle.container_core.specs.declared.history.Event.{Event}
use Rattle.report_queue.specs.Passes.{PassValue}
use Rattle.request_intake.specs.declared.intake.HomeBoot.{HomeBoot}
use Rattle.send_windows.specs.declared.history.WindowMark.{WindowMark}
use Rattle.shared_words.specs.Words.{WordSeatValue, WordsValue}
use Rattle.turn_lock.specs.Seats.{LockValue, SeatValue}

-- The locks of the container and of the windows, the words, the queue of reports, the key, and the boot with its node.
pub record SiteValue : Type 0 where
  pub container : LockValue
  pub windows : LockValue
  pub words : WordsValue
  pub reports : TableId
  pub key : List ℕ
  pub home : HomeBoot

-- The seats of a thread, and its pass to the queue.
pub record SeatsValue : Type 0 where
  pub container : SeatValue Event
  pub windows : SeatValue WindowMark
  pub words : WordSeatValue
  pub pass : PassValue Unit

-- Seats are of what is shared: neither the container nor the windows are out with them.
abbrev pub AreOf : SiteValue → SeatsValue → Type 0
AreOf site seats =
    AreSeatsOf (ids_of site.container site.windows site.words site.reports) seats.container seats.windows seats.words seats.pass

-- Seats have at least so many parts of each.
pub record HaveParts (count : ℕ) (seats : SeatsValue) : Type 0 where
  pub container : count ≤ seats.container.parts
  pub windows : count ≤ seats.windows.parts
  pub words : count ≤ seats.words.parts

-- Seats were used: they have their parts of the container, and have seen no less of it.
pub record WereUsed (old new : SeatsValue) : Type 0 where
  pub parts : new.container.parts ≡ old.container.parts
  pub seen : IsPrefix old.container.seen new.container.seen
