use Rattle.std.proofs.Common.{List, Option, ap, ◌∙◌}
use Rattle.component_pool.specs.declared.instance.Instance.{Instance}
use Rattle.component_pool.specs.Instances.{has_taken, instance_in}
use Rattle.component_pool.proofs.Shown.{removed_chained, shown_others}
use Rattle.component_pool.proofs.instances.Instances.remove.Goals as goal

pub invariant_of-self : goal.invariant_of-self
invariant_of-self c =
    removed_chained c.self.inside.slab c.try_remove-gone.new.self c.self.inside.firsts c.args.n c.self.invariant
    (ap (λ (all : List (Option Instance)). has_taken (instance_in all c.args.n)) c.self.view_is ∙ c.requires)
    c.try_remove-gone.ensures.updates

pub returns-clause-others : goal.returns-clause-others
returns-clause-others c = λ m other.
    shown_others c.self.inside.slab.slots c.try_remove-gone.new.self.slots c.args.n c.try_remove-gone.ensures.updates.others m other
    ∙ ap (λ (all : List (Option Instance)). instance_in all m) c.self.view_is
