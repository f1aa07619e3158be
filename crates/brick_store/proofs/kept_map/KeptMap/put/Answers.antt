use Rattle.std.proofs.Common.{sym, subst, arith}
use Rattle.brick_store.specs.Bricks.{put_value}
use Rattle.brick_store.specs.Kept.{AreInOrder}
use Rattle.brick_store.specs.Pairs.{kept_in}
use Rattle.brick_store.specs.Puts.{PutEnds}
use Rattle.brick_store.proofs.Keeping.{ordered_with}
use Rattle.brick_store.proofs.kept_map.KeptMap.put.Goals as goal

pub invariant_of-self-in-Some : goal.invariant_of-self-in-Some
invariant_of-self-in-Some c =
    let s = put_value c.args.key c.args.version c.args.expiry c.args.value.now in
    let old = kept_in c.self.inside.leases.entries in
    let new = kept_in c.put_in.new.leases.entries in
    let ends = subst (PutEnds s old new) c.in-Some.is c.in_ok-bytes.ensures.ok in
    (subst AreInOrder (sym ends.1) (ordered_with s old c.self.invariant.0), ends.2, omega (arith, ends.2, ends.3), c.put_in.ensures.tied)
