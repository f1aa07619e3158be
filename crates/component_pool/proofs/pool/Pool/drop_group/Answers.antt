use Rattle.std.proofs.Common.{ap, ◌∙◌}
use Rattle.crash_base.specs.declared.scope.Scope.TheVariants.{Group}
use Rattle.component_pool.specs.Pool.{entered_in}
use Rattle.component_pool.proofs.Counting.{counted_rebooted}
use Rattle.component_pool.proofs.pool.Pool.drop_group.Goals as goal

pub returns-clause-counted : goal.returns-clause-counted
returns-clause-counted c =
    counted_rebooted c.self.inside.components c.reboot.new.components (Group c.args.g) c.args.level
    c.self.invariant.many (c.reboot.auto.components ∙ c.self.invariant.many) c.reboot.ensures.components
    ∙ ap entered_in c.self.view_is
