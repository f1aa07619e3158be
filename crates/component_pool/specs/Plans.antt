-- Which fault plans are active.
use Rattle.std.specs.Prelude.{◌≡◌, ℕ, ◌-◌, ◌^◌, ◌==◌, ◌&&◌, nat_le, min, Bool, true, false, not, List, take, slice_get, Option, Some, option_map, option_and_then, position, All}
use Rattle.std.specs.List.{filter}
use Rattle.crash_base.specs.declared.fault_plans.FaultKind.{FaultKind}
use Rattle.crash_base.specs.declared.fault_plans.FaultPlan.{FaultPlan}
use Rattle.crash_base.specs.declared.numbers.Level.{Level}
use Rattle.crash_base.specs.declared.numbers.Level.TheVariants.{Process}
use Rattle.component_pool.specs.Cures.{cures, one_cures}

-- Whether a plan is active once its component was entered so often, and its group was rebooted at these levels: it was
-- entered as often as the plan says or more, and no reboot cured the plan.
abbrev pub is_active : ℕ → List Level → FaultPlan → Bool
is_active entered reboots plan = nat_le plan.after entered && not (one_cures reboots plan.cured_by)

-- whether a plan makes a component fail
abbrev pub makes_fail : ℕ → ℕ → List Level → FaultPlan → Bool
makes_fail c entered reboots plan = (plan.component.0 == c) && is_active entered reboots plan

-- the kind of the plan at a number, with the number
abbrev pub plan_at : List FaultPlan → ℕ → Option (ℕ × FaultKind)
plan_at plans number = option_map (λ (plan : FaultPlan). (number, plan.kind)) (slice_get plans number)

-- the number and the kind of the first plan that makes a component fail
abbrev pub active_plan : List FaultPlan → ℕ → ℕ → List Level → Option (ℕ × FaultKind)
active_plan plans c entered reboots =
    option_and_then (plan_at plans) (position (makes_fail c entered reboots) plans)

-- A plan is the first that makes a component fail: it does, and none before it.
pub record IsFirstActive (plans : List FaultPlan) (c entered : ℕ) (reboots : List Level) (number : ℕ) (plan : FaultPlan) : Type 0 where
  pub here : slice_get plans number ≡ Some plan
  pub active : makes_fail c entered reboots plan ≡ true
  pub before : All (λ p. makes_fail c entered reboots p ≡ false) (take number plans)

-- how often something is counted that happened so often: a u64 counts no further
abbrev pub counted : ℕ → ℕ
counted n = min n (2 ^ 64 - 1)

-- whether a plan is left by a reboot of the process
abbrev pub outlives_process : FaultPlan → Bool
outlives_process plan = not (cures Process plan.cured_by)

-- the plans that a reboot of the process leaves
abbrev pub left_by_process : List FaultPlan → List FaultPlan
left_by_process plans = filter outlives_process plans
