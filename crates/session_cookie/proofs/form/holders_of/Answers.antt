use Rattle.std.proofs.Common.{arith}
use Rattle.std.proofs.lemmas.List.Elements.{All-push}
use Rattle.session_cookie.specs.Cookie.{IsHolder}
use Rattle.session_cookie.proofs.Holders.{holder_taken, smaller, sizes_more}
use Rattle.session_cookie.proofs.form.holders_of.Goals as goal

pub loop-holder-smaller : goal.loop-holder-smaller
loop-holder-smaller c = omega (arith, smaller c.loop-holder.left.now c.in-Some.rest.now c.in-Some.holder c.in-Some.ensures.0)

pub loop-holder-preserved : goal.loop-holder-preserved
loop-holder-preserved c = record {
  so_far = holder_taken c.args.bytes.now c.loop-holder.left.now c.in-Some.rest.now c.loop-holder.holders.items c.push.new.self.items c.in-Some.holder c.loop-holder.invariant.so_far c.in-Some.ensures.0 c.in_ok-push.ensures.items;
  each = rw c.in_ok-push.ensures.items (All-push IsHolder c.loop-holder.holders.items c.in-Some.holder c.loop-holder.invariant.each c.in-Some.ensures.1);
  sizes = sizes_more _ c.loop-holder.left.now c.in-Some.rest.now c.loop-holder.holders.items c.push.new.self.items c.in-Some.holder c.loop-holder.invariant.sizes c.in-Some.ensures.0 c.in_ok-push.ensures.items;
}
