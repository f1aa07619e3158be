use Rattle.std.proofs.Common.{◌≤◌, sym, subst, List, filter, arith}
use Rattle.brick_store.specs.declared.kept.Kept.{Kept}
use Rattle.brick_store.specs.declared.kept.TheConstants.{MAX_BRICK_BYTES}
use Rattle.brick_store.specs.Kept.{bytes_of, outlives, AreInOrder}
use Rattle.brick_store.specs.Pairs.{kept_in}
use Rattle.brick_store.proofs.Keeping.{ordered_left, fewer_left}
use Rattle.brick_store.proofs.kept_map.KeptMap.sweep.Goals as goal

pub invariant_of-self : goal.invariant_of-self
invariant_of-self c =
    let old = kept_in c.self.inside.leases.entries in
    let left = filter (outlives c.args.moment) old in
    let P : List Kept → Type 0 = λ new. AreInOrder new in
    let Q : List Kept → Type 0 = λ new. bytes_of new ≤ MAX_BRICK_BYTES in
    let few : Q left = omega (arith, c.self.invariant.2, (fewer_left (outlives c.args.moment) old).1) in
    (subst P (sym c.sweep_in-self-inside.ensures.left) (ordered_left (outlives c.args.moment) old c.self.invariant.0), c.sweep_in-self-inside.ensures.bytes, subst Q (sym c.sweep_in-self-inside.ensures.left) few, c.sweep_in-self-inside.ensures.tied)
