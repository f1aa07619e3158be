-- The values of sessions.
use Rattle.std.specs.Prelude.{ℕ, ◌^◌, ◌==◌, ◌&&◌, nat_lt, if◌then◌else◌, List, ◌++◌, length, take}
use Rattle.std.specs.Int.{w64, from_be_bytes}
use Rattle.auction_rows.specs.Spelling.{u64_bytes}

-- the value of a session of this user, from this moment on
unfoldable pub session_bytes : ℕ → ℕ → List ℕ
session_bytes user moment = u64_bytes user ++ u64_bytes moment

-- the user that sixteen bytes begin with, if it is below 2^32, and else 0
unfoldable pub session_user : List ℕ → ℕ
session_user value =
    let user = from_be_bytes w64 (take 8 value) in
    if (length value == 16) && nat_lt user (2 ^ 32) then user else 0
