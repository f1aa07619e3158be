use Rattle.std.proofs.Common.{◌≡◌, ◌++◌, ◌-◌, take, replicate}
use Rattle.session_cookie.proofs.hmac.block_of.Given as goal

abbrev pub invariant-loop-i : goal.invariant-loop-i
invariant-loop-i l = l.block ≡ take l.i l.digest ++ replicate (64 - l.i) 0

abbrev pub invariant-loop-i-else-key-gt64 : goal.invariant-loop-i-else-key-gt64
invariant-loop-i-else-key-gt64 l = l.block ≡ take l.i l.fn.key ++ replicate (64 - l.i) 0
