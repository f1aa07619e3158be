-- Values of sessions are read back.
use Rattle.std.proofs.Common.{◌≡◌, ℕ, ◌^◌, ◌<◌, true, nat_lt, refl, arith}
use Rattle.std.proofs.lemmas.Bool.Decides.{nat_tests}
use Rattle.std.proofs.lemmas.Nat.{from_be_bytes-to_be_bytes_8}
use Rattle.auction_rows.specs.Session.{session_bytes, session_user}
use Rattle.auction_rows.specs.Spelling.{u64_bytes}

pub read_back : (user moment : ℕ) → user < 2 ^ 32 → session_user (session_bytes user moment) ≡ user
unfolding session_user session_bytes u64_bytes
read_back user moment h =
    let wide : user < 2 ^ 64 = omega arith in
    let few : nat_lt user (2 ^ 32) ≡ true = grind (arith, nat_tests) in
    rw (from_be_bytes-to_be_bytes_8 user wide, few) refl
