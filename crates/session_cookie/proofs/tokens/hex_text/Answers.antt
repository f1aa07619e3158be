use Rattle.std.proofs.Common.{arith, rules, ◌*◌, ◌+◌, set, refl}
use Rattle.std.proofs.lemmas.List.{length-set}
use Rattle.session_cookie.specs.Token.{hex_text}
use Rattle.session_cookie.proofs.Digits.{digits_more}
use Rattle.session_cookie.proofs.tokens.hex_text.Goals as goal

pub loop-i-init : goal.loop-i-init
unfolding hex_text
loop-i-init c = (refl, search rules, refl)

pub loop-i-preserved : goal.loop-i-preserved
loop-i-preserved c =
    let t = c.loop-i-test.true in
    let one = length-set c.loop-i.text (2 * c.loop-i.i) c.digit_of.result in
    let two = length-set (set c.loop-i.text (2 * c.loop-i.i) c.digit_of.result) (2 * c.loop-i.i + 1) c.digit_of-in-loop-i.result in (
      omega (arith, one, two, c.loop-i.invariant.0),
      c.loop-i.invariant.1,
      digits_more c.loop-i.text c.args.bytes.now c.loop-i.i c.digit_of.result c.digit_of-in-loop-i.result (omega (arith, c.loop-i.invariant.0)) (omega (arith, c.loop-i.invariant.1)) c.loop-i.invariant.2 c.digit_of.ensures c.digit_of-in-loop-i.ensures,
    )
