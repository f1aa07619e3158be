use Rattle.std.proofs.Common.{◌≡◌, filter, length}
use Rattle.std.specs.BTreeMap.{IsOrdered}
use Rattle.brick_store.specs.Kept.{bytes_of, outlives}
use Rattle.brick_store.specs.Pairs.{kept_in}
use Rattle.brick_store.specs.Tied.{pair_order, AreTied}
use Rattle.brick_store.proofs.kept_map.sweep_in.Given as goal

abbrev pub invariant-loop-item : goal.invariant-loop-item
invariant-loop-item l = record {
  tied : AreTied l.leases.entries l.wheel;
  ordered : IsOrdered pair_order l.leases;
  bytes : l.left ≡ bytes_of (kept_in l.leases.entries);
  same : filter (outlives l.moment) (kept_in l.leases.entries) ≡ filter (outlives l.moment) (kept_in l.initial.leases.entries);
}

abbrev pub decreases-loop-item : goal.decreases-loop-item
decreases-loop-item l = length l.wheel
