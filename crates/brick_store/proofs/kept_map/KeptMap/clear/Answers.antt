use Rattle.std.proofs.Common.{◌≡◌, ◌≤◌, List, [], refl, sym, subst, arith}
use Rattle.lease_wheel.specs.Leased.{Leased}
use Rattle.brick_store.specs.declared.kept.TheConstants.{MAX_BRICK_BYTES}
use Rattle.brick_store.specs.Kept.{bytes_of, AreInOrder}
use Rattle.brick_store.specs.Pairs.{kept_in}
use Rattle.brick_store.specs.Tied.{AreTied}
use Rattle.brick_store.proofs.Tying.{Entries, tied_none}
use Rattle.brick_store.proofs.kept_map.KeptMap.clear.Goals as goal

pub invariant_of-self : goal.invariant_of-self
invariant_of-self c =
    let P : Entries → List Leased → Type 0 = λ es ds. AreInOrder (kept_in es) × (0 ≡ bytes_of (kept_in es)) × (bytes_of (kept_in es) ≤ MAX_BRICK_BYTES) × AreTied es ds in
    let none : P [] [] = (tt, refl, omega arith, tied_none) in
    subst (λ es. P es c.clear-2.new.self) (sym c.clear.ensures.empty) (subst (P []) (sym c.clear-2.ensures) none)
