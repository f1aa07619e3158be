-- When a value may be put among the kept ones, and what it comes to.
use Rattle.std.specs.Prelude.{◌≡◌, ◌≤◌, ◌<◌, ◌+◌, ◌-◌, ℕ, true, false, List, length, Option, Some, None, Result, Ok, Err}
use Rattle.crash_base.specs.declared.memory.OutOfMemory.{OutOfMemory}
use Rattle.crash_base.specs.declared.numbers.Moment.{Moment}
use Rattle.lease_wheel.specs.declared.wheel.WheelItem.{WheelItem}
use Rattle.lease_wheel.specs.Leased.{Leased}
use Rattle.lease_wheel.specs.Wheels.{named, with_leased, Leaves, AreInOrder as AreInTurn}
use Rattle.brick_store.specs.declared.kept.Kept.{Kept}
use Rattle.brick_store.specs.declared.kept.TheConstants.{MAX_BRICK_VALUES, MAX_BRICK_BYTES}
use Rattle.brick_store.specs.declared.kept_map.Pair.{Pair}
use Rattle.brick_store.specs.declared.kept_map.Lease.{Lease}
use Rattle.brick_store.specs.Kept.{with_kept, bytes_of, is_full, AreInOrder}
use Rattle.brick_store.specs.Pairs.{kept_in}
use Rattle.brick_store.specs.Tied.{AreTied}

-- the pairs are in order, no more than a brick keeps, tied to the wheel, and have so many bytes
pub record CanPut (es : List (Pair × Lease)) (ds : List Leased) (bytes : ℕ) : Type 0 where
  pub tied : AreTied es ds
  pub in_order : AreInOrder (kept_in es)
  pub values : length (kept_in es) ≤ MAX_BRICK_VALUES
  pub bytes_is : bytes ≡ bytes_of (kept_in es)
  pub bytes_few : bytes ≤ MAX_BRICK_BYTES

-- what a put comes to: nothing where there is no room, and else it tells how many bytes are kept then
abbrev pub PutEnds : Kept → List Kept → List Kept → Option ℕ → Type 0
PutEnds s old new None = (is_full old s ≡ true) × (new ≡ old)
PutEnds s old new (Some bytes) = (is_full old s ≡ false) × (new ≡ with_kept s old) × (bytes ≡ bytes_of new) × (bytes ≤ MAX_BRICK_BYTES)

-- a lease in place of another: it is on the wheel, which the old one has left then
pub record IsRenewed (old new : Lease) (ds es : List Leased) (item : WheelItem) : Type 0 where
  pub mid : List Leased
  pub is : mid ≡ with_leased (named new.node item) ds
  pub in_turn : AreInTurn mid
  pub gone : WheelItem
  pub left : Leaves mid old.node gone es

-- What a value in place of that of a lease comes to, where so many bytes are kept: nothing where they would be too
-- many, or where memory runs out, and else it tells how many are kept then.
abbrev pub RenewEnds : Lease → Lease → List Leased → List Leased → ℕ → WheelItem → Moment → List ℕ → Result (Option ℕ) OutOfMemory → Type 0
RenewEnds old new ds es bytes item expiry value (Ok None) =
    (MAX_BRICK_BYTES + length old.value < bytes + length value) × (new ≡ old) × (es ≡ ds)
RenewEnds old new ds es bytes item expiry value (Ok (Some left)) =
    (bytes + length value ≤ MAX_BRICK_BYTES + length old.value) × (left ≡ bytes + length value - length old.value)
    × (new.node.expiry ≡ expiry) × (new.value ≡ value) × IsRenewed old new ds es item
RenewEnds old new ds es bytes item expiry value (Err e) =
    (bytes + length value ≤ MAX_BRICK_BYTES + length old.value) × (new ≡ old) × (es ≡ ds)
