use Rattle.std.proofs.Common.{◌≡◌, ℕ, ◌<◌, get_or, length}
use Rattle.session_cookie.specs.Reading.{byte_at}
use Rattle.session_cookie.proofs.tokens.first_bytes.Given as goal

abbrev pub invariant-loop-i : goal.invariant-loop-i
invariant-loop-i l = (length l.bytes ≡ 12) × ((k : ℕ) → k < l.i → get_or l.bytes k 0 ≡ byte_at l.fn.text k)
