use Rattle.std.proofs.Common.{arith}
use Rattle.session_cookie.proofs.Digits.{bytes_more}
use Rattle.session_cookie.proofs.tokens.first_bytes.Goals as goal

pub loop-i-preserved : goal.loop-i-preserved
loop-i-preserved c =
    bytes_more c.args.text.now c.loop-i.bytes c.loop-i.i c.hex_value.result c.hex_value-in-loop-i.result (let t = c.loop-i-test.true in omega arith)
    c.loop-i.invariant.0 c.loop-i.invariant.1 c.hex_value.ensures.value c.hex_value-in-loop-i.ensures.value
