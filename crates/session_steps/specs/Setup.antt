-- The sessions that head lines set up.
use Rattle.std.specs.Prelude.{ℕ, List, Option, Some, None}
use Rattle.std.specs.Option.{option_map}
use lib.ListN.{replicate}
use Rattle.scenario_text.specs.Setup.{SetupState}
use Rattle.scenario_text.specs.declared.setup.BrickCounts.{BrickCounts}
use Rattle.session_steps.specs.declared.sessions.TheConstants.{DEFAULT_KEY_BYTES}
use Rattle.session_steps.specs.Sessions.{SessionsState, opened}
use Rattle.session_lanes.specs.Lanes.{LanesState, new_lanes}

-- the key of the service: 32 zero bytes where none is given
abbrev pub service_key : Option (List ℕ) → List ℕ
service_key None = replicate DEFAULT_KEY_BYTES 0
service_key (Some key) = key

-- the new bricks of these counts, if there are some
abbrev pub store_of : Option BrickCounts → Option LanesState
store_of counts = option_map (λ (c : BrickCounts). new_lanes c.bricks c.most c.least) counts

-- the sessions of a boot, before the first line about them
abbrev pub set_up : SetupState → ℕ → SessionsState
set_up setup boot = opened boot (service_key setup.key) (store_of setup.counts)
