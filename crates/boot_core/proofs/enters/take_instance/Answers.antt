use Rattle.component_pool.specs.Pool.{once_more}
use Rattle.component_pool.proofs.Counting.{stands_as_counted}
use Rattle.boot_core.proofs.enters.take_instance.Goals as goal

pub returns-clause-stands : goal.returns-clause-stands
returns-clause-stands c = λ parts given enterings reboots stands. stands_as_counted c.take.new.self parts given (once_more c.args.c.0 enterings) reboots (c.in_ok-instance.ensures.stands parts given enterings reboots stands)
