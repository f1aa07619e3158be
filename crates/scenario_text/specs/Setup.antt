-- What head lines say of sessions: the bricks, and the key of the service.
use Rattle.std.specs.Prelude.{◌≡◌, ℕ, nat_lt, nat_le, not, ◌&&◌, Bool, true, List, [], length, Option, Some, None, is_some}
use Rattle.send_windows.specs.declared.fact.TheConstants.{MAX_BRICKS}
use Rattle.scenario_text.specs.Answer.{Answer, Done, refused_if}
use Rattle.scenario_text.specs.declared.setup.BrickCounts.{BrickCounts}
use Rattle.scenario_text.specs.declared.setup.TheConstants.{LEAST_KEY_BYTES, MOST_KEY_BYTES}

-- What head lines have said of sessions: how many bricks there are and how many of them a write asks and needs, and the
-- key of the service.
pub record SetupState : Type 0 where
  pub counts : Option BrickCounts
  pub key : Option (List ℕ)

-- before the first line: no bricks, and the key that is taken where none is given
abbrev pub no_setup : SetupState
no_setup = record { counts = None; key = None }

-- whether a write may ask and need so many of so many bricks: 1 ≤ least ≤ most ≤ bricks ≤ 16
abbrev pub are_counts : ℕ → ℕ → ℕ → Bool
are_counts bricks most least =
    (nat_le 1 least && nat_le least most) && (nat_le most bricks && nat_le bricks MAX_BRICKS)

-- these counts, if there are some, are such
abbrev pub HasCounts : Option BrickCounts → Type 0
HasCounts None = Unit {0}
HasCounts (Some c) = are_counts c.bricks c.most c.least ≡ true

-- There are so many bricks. Refused are other counts than these, and bricks where there are some.
unfoldable pub bricks_step : SetupState → ℕ → ℕ → ℕ → Answer SetupState
bricks_step setup bricks most least =
    refused_if (is_some setup.counts)
    (refused_if (not (are_counts bricks most least))
    (Done (record setup { counts = Some (record { bricks = bricks; most = most; least = least }) }) []))

-- The key of the service is given. Refused are a key of fewer than 16 or more than 64 bytes, and a second one.
unfoldable pub key_step : SetupState → List ℕ → Answer SetupState
key_step setup key =
    refused_if (is_some setup.key)
    (refused_if (nat_lt (length key) LEAST_KEY_BYTES)
    (refused_if (nat_lt MOST_KEY_BYTES (length key))
    (Done (record setup { key = Some key }) [])))
