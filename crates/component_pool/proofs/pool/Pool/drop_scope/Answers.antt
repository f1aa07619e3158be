use Rattle.std.proofs.Common.{ap, ◌∙◌}
use Rattle.component_pool.specs.Pool.{entered_in}
use Rattle.component_pool.proofs.Counting.{counted_rebooted}
use Rattle.component_pool.proofs.pool.Pool.drop_scope.Goals as goal

pub returns-clause-counted : goal.returns-clause-counted
returns-clause-counted c =
    counted_rebooted c.self.inside.components c.reboot.new.components c.args.scope c.level_of.result
    c.self.invariant.many (c.reboot.auto.components ∙ c.self.invariant.many) c.reboot.ensures.components
    ∙ ap entered_in c.self.view_is
