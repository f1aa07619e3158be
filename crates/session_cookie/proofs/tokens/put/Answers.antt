use Rattle.session_cookie.proofs.Putting.{put_step}
use Rattle.session_cookie.proofs.tokens.put.Goals as goal

pub loop-i-preserved : goal.loop-i-preserved
loop-i-preserved c = put_step c.args.block.now c.loop-i.block c.args.piece.now c.args.at c.loop-i.i c.requires c.loop-i-test.true c.loop-i.invariant
