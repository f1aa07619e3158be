use Rattle.std.proofs.Common.{◌≤◌, List, length, sym, subst, arith}
use Rattle.brick_store.specs.declared.kept.Kept.{Kept}
use Rattle.brick_store.specs.declared.kept.TheConstants.{MAX_BRICK_VALUES}
use Rattle.brick_store.specs.Kept.{outlives}
use Rattle.brick_store.proofs.Keeping.{fewer_left}
use Rattle.brick_store.proofs.brick.Brick.sweep.Goals as goal

pub invariant_of-self : goal.invariant_of-self
invariant_of-self c =
    let P : List Kept → Type 0 = λ kept. length kept ≤ MAX_BRICK_VALUES in
    subst P (sym c.sweep.ensures) (omega (arith, c.self.invariant, (fewer_left (outlives c.args.moment) c.self.inside.kept).0))
