use Rattle.std.proofs.Common.{arith}
use Rattle.session_cookie.proofs.Differing.{differing_more}
use Rattle.session_cookie.proofs.hmac.is_same.Goals as goal

pub loop-i-preserved : goal.loop-i-preserved
loop-i-preserved c = differing_more c.loop-i.differing c.loop-i.i c.args.a.now c.args.b.now (let t = c.loop-i-test.true in omega arith) (let t = c.loop-i-test.true in omega (arith, c.requires)) c.loop-i.invariant
