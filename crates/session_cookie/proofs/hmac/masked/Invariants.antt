use Rattle.std.proofs.Common.{◌≡◌, take, length}
use Rattle.session_cookie.specs.Hmac.{masked}
use Rattle.session_cookie.proofs.hmac.masked.Given as goal

abbrev pub invariant-loop-i : goal.invariant-loop-i
invariant-loop-i l = (length l.masked ≡ 64) × (length l.fn.block ≡ 64) × (take l.i l.masked ≡ masked l.mask (take l.i l.fn.block))
