use Rattle.std.proofs.Common.{◌≡◌, Bool, true, ◌==◌, ◌&&◌, List, Option, sym, ap, ◌∙◌, subst}
use Rattle.component_pool.specs.declared.instance.Instance.{Instance}
use Rattle.component_pool.specs.Chains.{shown}
use Rattle.component_pool.specs.Instances.{instance_in, left_idle}
use Rattle.component_pool.proofs.Shown.{shown_left}
use Rattle.component_pool.proofs.instances.Instances.remove_idle.Goals as goal

pub returns-then-is_asked : goal.returns-then-is_asked
returns-then-is_asked c = λ n.
    let old = c.self.inside.slab.slots in
    let new = c.remove_idle.new.slab.slots in
    let P : Bool → Type 0 = λ asked. instance_in (shown new) n ≡ left_idle (λ d. (d == c.args.c) && asked) (instance_in c.args.self.now n) in
    subst P (sym c.if-is_asked.true)
    (shown_left old new c.args.c n (c.remove_idle.ensures.removed n) c.remove_idle.ensures.none
    ∙ ap (λ (all : List (Option Instance)). left_idle (λ d. (d == c.args.c) && true) (instance_in all n)) c.self.view_is)
