-- Houses of bricks and their seats, as contracts see them, and what a brick of a house replies.
use Rattle.std.specs.Prelude.{◌≡◌, ℕ, ◌+◌, ◌-◌, ◌<◌, false, List, [], ◌∷◌, Some}
use Rattle.atomic_table.specs.Seated.{TableId}
use Rattle.crash_base.specs.declared.numbers.BrickNo.{BrickNo}
use Rattle.ssm_frames.specs.declared.frame.Frame.{Frame}
use Rattle.brick_store.specs.Bricks.{BrickValue, reply}
use Rattle.turn_lock.specs.Seats.{LockValue, SeatValue}
use Rattle.brick_house.specs.declared.cell.BrickIdentity.{BrickIdentity}

-- which brick it is
abbrev pub identity_of : BrickValue → BrickIdentity
identity_of b = record { number = b.number; incarnation = b.incarnation }

-- A house: the locks of bricks 1, 2 and so on, and the incarnation of all of them.
pub record HouseValue : Type 0 where
  pub locks : List TableId
  pub incarnation : ℕ

-- Which house seats are of, and how many parts of each of its locks they have.
pub record HouseSeatsValue : Type 0 where
  pub house : HouseValue
  pub parts : ℕ

-- which lock it is
abbrev pub id_of : LockValue → TableId
id_of l = l.id

-- which lock a seat is of
abbrev pub lock_of : SeatValue BrickIdentity → TableId
lock_of s = s.lock

-- how many parts the first of some seats has
abbrev pub parts_of : List (SeatValue BrickIdentity) → ℕ
parts_of [] = 0
parts_of (s ∷ ss) = s.parts

-- A seat of the brick of this number and incarnation: the brick is not out with it, and it has seen which brick it is.
abbrev pub seat_of : ℕ → ℕ → ℕ → TableId → SeatValue BrickIdentity
seat_of incarnation parts number lock =
    record {
      lock = lock;
      parts = parts;
      holds = false;
      seen = record { number = record { 0 = number }; incarnation = incarnation } ∷ [];
      own = [];
    }

-- seats of the bricks of this number, the next one and so on
abbrev pub seats_from : ℕ → ℕ → ℕ → List TableId → List (SeatValue BrickIdentity)
seats_from incarnation parts number [] = []
seats_from incarnation parts number (lock ∷ locks) =
    seat_of incarnation parts number lock ∷ seats_from incarnation parts (number + 1) locks

-- a seat after one part was cut off
abbrev pub with_one_less : SeatValue BrickIdentity → SeatValue BrickIdentity
with_one_less s = record s { parts = s.parts - 1 }

-- the seat that was cut off
abbrev pub with_one : SeatValue BrickIdentity → SeatValue BrickIdentity
with_one s = record s { parts = 1; own = [] }

-- each of these seats is of its lock, has no value out, and has two parts or more
abbrev pub AreSplit : List TableId → List (SeatValue BrickIdentity) → Type 0
AreSplit [] [] = Unit {0}
AreSplit [] (s ∷ ss) = ⊥
AreSplit (lock ∷ locks) [] = ⊥
AreSplit (lock ∷ locks) (s ∷ ss) =
    (s.lock ≡ lock) × (s.holds ≡ false) × (1 < s.parts) × AreSplit locks ss

-- the brick is not out with the seat, which has seen which brick it is, and added nothing
pub record IsHome (s : SeatValue BrickIdentity) : Type 0 where
  pub home : s.holds ≡ false
  pub identity : BrickIdentity
  pub seen : s.seen ≡ identity ∷ []
  pub own : s.own ≡ []

-- some brick of which this was seen replies so to a request
abbrev pub IsReplySeen : List BrickIdentity → Frame → Frame → Type 0
IsReplySeen seen request answer =
    (b : BrickValue) × (seen ≡ identity_of b ∷ []) × (reply b request ≡ Some answer)

-- A brick of the house, by its number: it may keep anything.
pub record IsBrickOf (house : HouseValue) (number : BrickNo) (b : BrickValue) : Type 0 where
  pub number_is : b.number ≡ number
  pub incarnation_is : b.incarnation ≡ house.incarnation

-- Some brick of this number of the house replies so to a request.
abbrev pub IsReplyOf : HouseValue → BrickNo → Frame → Frame → Type 0
IsReplyOf house number request answer =
    (b : BrickValue) × IsBrickOf house number b × (reply b request ≡ Some answer)
