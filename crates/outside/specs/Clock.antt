-- Clocks, and what their callers see.
use Rattle.std.specs.Prelude.{◌≡◌, ℕ, ◌⊎◌}
use Rattle.crash_base.specs.declared.numbers.Moment.{Moment}
use Rattle.outside.specs.Faults.{counted}

-- A clock that stands until it is set: the moment that it shows, and its last answer, 0 before the first.
pub record PlainClockValue : Type 0 where
  pub shown : Moment
  pub told : Moment

-- A clock over the system's: its last answer, 0 before the first, and how often the system's clock failed.
pub record SystemClockValue : Type 0 where
  pub told : Moment
  pub faults : ℕ

-- One reading of the system's clock: it failed, which is counted, and the last answer is given again; or it did not.
abbrev pub HasRead : SystemClockValue → SystemClockValue → Type 0
HasRead old new =
    (new.faults ≡ old.faults) ⊎ ((new.faults ≡ counted old.faults) × (new.told ≡ old.told))
