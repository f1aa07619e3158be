use Rattle.std.proofs.Common.{length}
use Rattle.lease_list.proofs.list.LeaseList.drop.Given as goal

abbrev pub decreases-loop-value : goal.decreases-loop-value
decreases-loop-value g l = length l.self.nodes
