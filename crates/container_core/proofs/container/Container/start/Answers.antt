use Rattle.container_core.proofs.Opening.{kept_opened}
use Rattle.container_core.proofs.container.Container.start.Goals as goal

pub invariant_of-result : goal.invariant_of-result
invariant_of-result g c =
    kept_opened c.args.deployment c.args.plans c.args.limits (g.K.Keeper.told c.args.keeper) (g.K.Keeper.told c.open.new.keeper) c.in-Ok.opened.boot.value c.in-Ok.opened.history.marks c.in-Ok.ensures.opens.0 c.in-Ok.ensures.opens.1
