use Rattle.std.proofs.Common.{sym, subst, arith}
use Rattle.memory_site.specs.Going.{GoesOnAtSite}
use Rattle.memory_site.proofs.Together.{all_with}
use Rattle.memory_site.proofs.memory_site.MemorySite.step.Goals as goal

pub step-requires : goal.step-requires
step-requires c = subst (GoesOnAtSite c.self.inside.around.container) (sym c.index_mut.ensures.value) (c.self.invariant c.args.at c.index_mut.result.now (omega (arith, c.if-at-len.true, c.len.ensures)))

pub invariant_of-self : goal.invariant_of-self
invariant_of-self c =
    all_with c.self.inside.around.container c.step.new.self.container c.self.inside.shepherds.items c.args.at c.step.new.shepherd
    (λ s goes. record { goes_on = c.connections_go_on.ensures.meanwhile c.self.inside.around.container c.step.new.self.container s c.step.ensures.grown goes.goes_on })
    c.step.ensures.goes c.self.invariant
