-- When a wait for a client is over.
use Rattle.std.specs.Prelude.{◌≡◌, ◌⊎◌, ◌≤◌, ℕ}
use Rattle.client_sockets.specs.declared.waits.TheConstants.{MANY_REQUESTS, MAX_BUSY_WAITS, MAX_IDLE_WAITS}

-- A connection between two requests has been idle for too long: after so many waits in a row, after fewer where no
-- worker is free, and after one behind many requests.
abbrev pub IsIdleTooLong : ℕ → ℕ → ℕ → Type 0
IsIdleTooLong waits requests free =
    (MAX_IDLE_WAITS ≤ waits) ⊎ ((MANY_REQUESTS ≤ requests) ⊎ ((MAX_BUSY_WAITS ≤ waits) × (free ≡ 0)))
