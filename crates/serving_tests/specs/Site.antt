-- What was seen of a container, as what begins with a start of the site, and seats that are given back.
use Rattle.std.specs.Prelude.{◌≡◌, ℕ, false, List, [], ◌∷◌, Option, Some, None, option_map}
use Rattle.atomic_table.specs.Seated.{TableId}
use Rattle.auction_rows.specs.Parts.{site_parts}
use Rattle.boot_core.specs.declared.boot.Start.{Start}
use Rattle.container_core.specs.declared.history.Event.{Event}
use Rattle.container_core.specs.declared.history.Event.TheVariants.{Added, KeeperFailed, Started, Stopped}
use Rattle.request_intake.specs.declared.intake.HomeBoot.{HomeBoot}
use Rattle.turn_lock.specs.Seats.{SeatValue}

-- the start that a history begins with, if it begins with one
abbrev pub start_in : List Event → Option Start
start_in [] = None
start_in (Started start ∷ events) = Some start
start_in (Added entry ∷ events) = None
start_in (KeeperFailed request ∷ events) = None
start_in (Stopped ∷ events) = None

-- What was seen begins with a start of the site, in this boot.
pub record BeginsSite (home : HomeBoot) (seen : List Event) : Type 0 where
  pub parts_are : option_map (λ (s : Start). s.deployment) (start_in seen) ≡ Some site_parts
  pub boot_is : option_map (λ (s : Start). s.boot) (start_in seen) ≡ Some home.boot

-- A seat of this lock is given back with so many parts, and holds nothing.
pub record IsBack (lock : TableId) (parts : ℕ) (seat : SeatValue Event) : Type 0 where
  pub lock_is : seat.lock ≡ lock
  pub parts_are : seat.parts ≡ parts
  pub home : seat.holds ≡ false
