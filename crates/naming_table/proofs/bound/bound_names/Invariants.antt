use Rattle.std.proofs.Common.{◌≡◌, ◌<◌, ◌++◌, length, map, drop, All}
use Rattle.std.specs.List.{enumerate_from}
use Rattle.crash_base.specs.declared.scope.TheConstants.{MAX_GROUPS}
use Rattle.naming_table.specs.Binding.{bound_name, names_of}
use Rattle.naming_table.proofs.bound.bound_names.Given as goal

abbrev pub invariant-loop-c : goal.invariant-loop-c
invariant-loop-c l = record {
  rest : l.bound ++ map (bound_name l.deployment) (enumerate_from l.c (drop l.c l.deployment.components)) ≡ names_of l.deployment;
  count : length l.bound ≡ l.c;
  groups : All (λ b. b.group.0 < MAX_GROUPS) l.bound;
}
