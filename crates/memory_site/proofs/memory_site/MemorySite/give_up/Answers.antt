use Rattle.std.proofs.Common.{sym, subst}
use Rattle.memory_site.specs.Going.{GoesOnAtSite}
use Rattle.memory_site.proofs.Together.{all_still, all_with}
use Rattle.container_core.specs.Container.{ContainerValue}
use Rattle.memory_site.proofs.memory_site.MemorySite.give_up.Goals as goal

pub invariant_of-self : goal.invariant_of-self
invariant_of-self c =
    let fresh = subst (GoesOnAtSite c.self.inside.around.container) (sym c.replace-old.ensures.after) c.connect-fresh.ensures.goes in
    let all = all_with c.self.inside.around.container c.self.inside.around.container c.self.inside.shepherds.items c.args.at c.replace-old.new.dest (λ s goes. goes) fresh c.self.invariant in
    all_still c.self.inside.around.container c.give_up.new.self.container _ (λ s goes. subst (λ (k : ContainerValue). GoesOnAtSite k s) (sym c.give_up.ensures.same) goes) all
