-- What the bricks inside a world stand for: no public clause cites it.
use Rattle.std.specs.Prelude.{◌≡◌, ℕ, ◌+◌, ◌^◌, ◌<◌, List, length, map, slice_get, Some}
use Rattle.crash_base.specs.declared.numbers.BrickNo.{BrickNo}
use Rattle.brick_store.specs.declared.event.BrickEvent.{BrickEvent}

-- a brick by its number and its history
pub record LoggedValue : Type 0 where
  pub number : BrickNo
  pub history : List BrickEvent

-- the histories of bricks
abbrev pub histories_of : List LoggedValue → List (List BrickEvent)
histories_of bricks = map (λ (brick : LoggedValue). brick.history) bricks

-- bricks stand by their numbers: 1, 2 and so on, up to 65,535 at most
pub record AreNumbered (bricks : List LoggedValue) : Type 0 where
  pub each : (i : ℕ) (brick : LoggedValue) → slice_get bricks i ≡ Some brick → brick.number.0 ≡ i + 1
  pub few : length bricks < 2 ^ 16
