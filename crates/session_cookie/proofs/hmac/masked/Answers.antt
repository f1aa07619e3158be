use Rattle.std.proofs.Common.{arith, get_or, bit_xor}
use Rattle.std.proofs.lemmas.List.{length-set}
use Rattle.session_cookie.proofs.Masks.{masked_more, masked_all}
use Rattle.session_cookie.proofs.hmac.masked.Goals as goal

pub loop-i-preserved : goal.loop-i-preserved
loop-i-preserved c = (
  omega (arith, length-set c.loop-i.masked c.loop-i.i (bit_xor (get_or c.args.block.now c.loop-i.i 0) c.args.mask)),
  c.loop-i.invariant.1,
  masked_more c.args.mask c.loop-i.masked c.args.block.now c.loop-i.i (omega (arith, c.loop-i.invariant.0)) (omega (arith, c.loop-i.invariant.1)) c.loop-i.invariant.2,
)

pub returns : goal.returns
returns c = masked_all c.args.mask c.loop-i.masked c.args.block.now c.loop-i.i (omega (arith, c.loop-i.invariant.0)) (omega (arith, c.loop-i.invariant.1)) c.loop-i.invariant.2
