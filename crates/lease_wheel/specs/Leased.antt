-- An item of a wheel, as contracts see it.
use Rattle.std.specs.Prelude.{ℕ}
use denote.RawPtr.{Ptr}
use Rattle.crash_base.specs.declared.numbers.Moment.{Moment}
use Rattle.lease_wheel.specs.declared.wheel.WheelItem.{WheelItem}

-- an item with the moment at which its lease ends, and the number and the place of its node in the list of that moment
pub record Leased : Type 0 where
  pub expiry : Moment
  pub number : ℕ
  pub at : Ptr
  pub item : WheelItem
