use Rattle.std.proofs.Common.{◌≤◌, ◌-◌, length, drop, vec_capacity}
use Rattle.commit_journal.proofs.Merging.{IsMerging}
use Rattle.commit_journal.proofs.made.merge.Given as goal

abbrev pub invariant-loop-done : goal.invariant-loop-done
invariant-loop-done l = record {
  within : l.done ≤ length l.others;
  merging : IsMerging l.made l.others l.merged.items l.left (drop l.done l.others);
  capacity : vec_capacity l.initial.merged ≤ vec_capacity l.merged;
}

abbrev pub decreases-loop-done : goal.decreases-loop-done
decreases-loop-done l = length l.others - l.done
