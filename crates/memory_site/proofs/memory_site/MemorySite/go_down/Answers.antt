use Rattle.memory_site.proofs.Together.{all_still}
use Rattle.memory_site.proofs.memory_site.MemorySite.go_down.Goals as goal

pub invariant_of-self : goal.invariant_of-self
invariant_of-self c =
    all_still c.self.inside.around.container c.begin_reboot.new.container c.self.inside.shepherds.items
    (λ s goes. record { goes_on = c.connections_go_on.ensures.meanwhile c.self.inside.around.container c.begin_reboot.new.container s c.begin_reboot.ensures.grown goes.goes_on }) c.self.invariant
