use Rattle.std.proofs.Common.{◌≡◌, ◌*◌, take, length}
use Rattle.session_cookie.specs.Token.{hex_text}
use Rattle.session_cookie.proofs.tokens.hex_text.Given as goal

abbrev pub invariant-loop-i : goal.invariant-loop-i
invariant-loop-i l = (length l.text ≡ 56) × (length l.fn.bytes ≡ 28) × (take (2 * l.i) l.text ≡ hex_text (take l.i l.fn.bytes))
