use Rattle.component_pool.proofs.Fresh.{RebootedBelow}
use Rattle.component_pool.proofs.pool.reboot.Given as goal

abbrev pub invariant-loop-number : goal.invariant-loop-number
invariant-loop-number l = RebootedBelow l.scope l.level l.initial.components l.components l.initial.instances l.instances l.number
