use Rattle.std.proofs.Common.{ℕ, List, Option, sym, subst}
use Rattle.component_pool.specs.declared.chains.Linked.{Linked}
use Rattle.component_pool.specs.Chains.{AreChained, no_firsts}
use Rattle.component_pool.proofs.Shown.{chained_new}
use Rattle.component_pool.proofs.instances.Instances.new.Goals as goal

pub invariant_of-result : goal.invariant_of-result
invariant_of-result c =
    let P : List (Option Linked) → Type 0 = λ slots. AreChained slots no_firsts in
    let Q : List (Option ℕ) → Type 0 = λ firsts. AreChained c.new-slab.result.slots firsts in
    subst Q (sym c.no_firsts-firsts.ensures) (subst P (sym c.new-slab.ensures.empty) chained_new)
