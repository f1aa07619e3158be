use Rattle.std.proofs.lemmas.List.Elements.{All-more}
use Rattle.session_cookie.specs.Cookie.{holder_bytes, IsHolder}
use Rattle.session_cookie.proofs.Pieces.{flat_more}
use Rattle.session_cookie.proofs.cookie.write_holders.Goals as goal

pub loop-holder-preserved : goal.loop-holder-preserved
loop-holder-preserved c = (
  flat_more holder_bytes c.args.bytes.now.items c.loop-holder.bytes.items c.write_holder.new.bytes.items c.args.holders.now c.loop-holder.holder-index _ c.loop-holder-test.true c.loop-holder.invariant.0 c.in_ok-write_holder.ensures.value,
  All-more IsHolder c.args.holders.now c.loop-holder.holder-index _ c.loop-holder-test.true c.loop-holder.invariant.1 c.write_holder.ensures.holder,
)
