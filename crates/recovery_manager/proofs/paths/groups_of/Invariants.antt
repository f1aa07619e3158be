use Rattle.std.proofs.Common.{◌≡◌, ℕ, map}
use Rattle.std.specs.List.{range_with_len}
use Rattle.deployment.specs.Groups.{group_no, group_of}
use Rattle.recovery_manager.proofs.paths.groups_of.Given as goal

abbrev pub invariant-loop-c : goal.invariant-loop-c
invariant-loop-c l = l.groups.items ≡ map (λ (c : ℕ). group_no (group_of l.deployment c)) (range_with_len 0 l.c)
