use Rattle.std.proofs.Common.{List, sym, ap, ◌∙◌, subst}
use Rattle.component_pool.specs.declared.component.PooledComponent.{PooledComponent}
use Rattle.component_pool.specs.Pool.{PoolValue, MayReboot}
use Rattle.component_pool.proofs.Standing.{may_by_list, list_by_may}
use Rattle.component_pool.proofs.pool.Pool.may_reboot.Goals as goal

pub returns-clause-may : goal.returns-clause-may
returns-clause-may c =
    let components = c.self.inside.components in
    let scope = c.args.scope in
    let same = ap (λ (p : PoolValue). p.components) c.self.view_is in
    let P : List PooledComponent → Type 0 = λ all. MayReboot all scope in (
      λ t. subst P same (may_by_list components scope c.self.invariant.many (sym c.have_next.ensures ∙ t)),
      λ may. c.have_next.ensures ∙ list_by_may components scope c.self.invariant.many (subst P (sym same) may),
    )
