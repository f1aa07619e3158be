use Rattle.std.proofs.Common.{ℕ}
use Rattle.slab.specs.Slab.{slab_len}
use Rattle.component_pool.specs.Chains.{AreChained, IsDropped}
use Rattle.component_pool.proofs.chains.remove_idle.Given as goal

abbrev pub invariant-idle : goal.invariant-idle
invariant-idle l = AreChained l.slab.slots l.firsts × ((n : ℕ) → IsDropped l.initial.slab.slots l.slab.slots l.c n)

abbrev pub decreases-idle : goal.decreases-idle
decreases-idle l = slab_len l.slab
