use Rattle.std.proofs.Common.{◌≡◌, length, ap, arith}
use Rattle.container_core.specs.Container.{ContainerValue}
use Rattle.container_core.specs.History.{laid}
use Rattle.container_core.proofs.Laid.{count_is}
use Rattle.container_core.proofs.container.Container.events.Goals as goal

pub returns : goal.returns
returns g c =
    let here : length (laid 0 c.self.inside.boot.value.entries c.self.inside.history.marks) ≡ length c.args.self.now.since = ap (λ (v : ContainerValue). length v.since) c.self.view_is in
    let all = count_is 0 c.self.inside.boot.value.entries c.self.inside.history.marks c.self.invariant.marked in
    omega (arith, here, all, c.entry_count.ensures.value, c.len.ensures.value)
