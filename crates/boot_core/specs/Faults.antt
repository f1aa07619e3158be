-- Which fault plan makes a component fail in a boot.
use Rattle.std.specs.Prelude.{◌≡◌, ℕ, Bool, Option}
use Rattle.crash_base.specs.declared.fault_plans.FaultKind.{FaultKind}
use Rattle.crash_base.specs.declared.fault_plans.FaultPlan.{FaultPlan}
use Rattle.crash_base.specs.declared.numbers.ComponentNo.{ComponentNo}
use Rattle.component_pool.specs.Journal.{reboots_in}
use Rattle.component_pool.specs.Plans.{active_plan, counted, makes_fail, IsFirstActive}
use Rattle.component_pool.specs.Pool.{times}
use Rattle.deployment.specs.Groups.{group_of}
use Rattle.boot_core.specs.Boot.{BootValue}

-- The number and the kind of the first plan that makes a component fail, if one does: by how often the component was
-- entered since the start, and by the reboots of its group that the journal has.
abbrev pub fault_of : BootValue → ComponentNo → Option (ℕ × FaultKind)
fault_of b c =
    active_plan b.start.plans c.0 (counted (times b.entered c.0)) (reboots_in b.entries (group_of b.start.deployment c.0))

-- whether a plan makes a component fail
abbrev pub makes_fail_in : BootValue → ComponentNo → FaultPlan → Bool
makes_fail_in b c plan =
    makes_fail c.0 (counted (times b.entered c.0)) (reboots_in b.entries (group_of b.start.deployment c.0)) plan

-- The plan of this number is the first that makes a component fail, and it is of this kind.
abbrev pub IsFirstFault : BootValue → ComponentNo → ℕ → FaultKind → Type 0
IsFirstFault b c n kind =
    (plan : FaultPlan)
    × IsFirstActive b.start.plans c.0 (counted (times b.entered c.0)) (reboots_in b.entries (group_of b.start.deployment c.0)) n plan
    × (plan.kind ≡ kind)
