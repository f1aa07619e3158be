use Rattle.std.proofs.Common.{ap, ◌∙◌}
use Rattle.component_pool.specs.Pool.{entered_in, one_more}
use Rattle.component_pool.proofs.Counting.{counted_one_more}
use Rattle.component_pool.proofs.pool.Pool.take.Goals as goal

pub returns-clause-counted : goal.returns-clause-counted
returns-clause-counted c =
    counted_one_more c.self.inside.components c.enter.new.components c.args.c.0
    c.self.invariant.many (c.enter.auto.components ∙ c.self.invariant.many) c.requires.component c.enter.ensures
    ∙ ap (λ pool. one_more (entered_in pool) c.args.c.0) c.self.view_is
