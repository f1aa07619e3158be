use Rattle.std.proofs.Common.{List, Option, ap, ◌∙◌}
use Rattle.component_pool.specs.declared.instance.Instance.{Instance}
use Rattle.component_pool.specs.Instances.{instance_in}
use Rattle.component_pool.proofs.Shown.{linked_of, shown_others}
use Rattle.component_pool.proofs.instances.Instances.put_back.Goals as goal

pub put_back-requires-clause-found : goal.put_back-requires-clause-found
put_back-requires-clause-found c =
    linked_of c.self.inside.slab.slots c.args.n c.args.instance (ap (λ (all : List (Option Instance)). instance_in all c.args.n) c.self.view_is ∙ c.requires.found)

pub returns-clause-others : goal.returns-clause-others
returns-clause-others c = λ m other.
    shown_others c.self.inside.slab.slots c.put_back.new.slab.slots c.args.n c.put_back.ensures.idle.others m other
    ∙ ap (λ (all : List (Option Instance)). instance_in all m) c.self.view_is
