-- A component that no plan stops works.
use Rattle.std.specs.Prelude.{All}
use Rattle.std.proofs.Common.{◌≡◌, ◌↔◌, ◌⊎◌, ℕ, ◌==◌, nat_le, Bool, true, false, not, ◌&&◌, List, [], Option, Some, None, inl, inr, refl, sym, ap, subst, ◌∙◌}
use Rattle.std.proofs.lemmas.Bool.{eqb-true, not-true}
use Rattle.std.proofs.lemmas.List.Elements.{All-nil}
use Rattle.crash_base.specs.declared.fault_plans.FaultKind.{FaultKind}
use Rattle.crash_base.specs.declared.fault_plans.FaultKind.TheVariants.{Hang, Leak, Raise}
use Rattle.crash_base.specs.declared.fault_plans.FaultPlan.{FaultPlan}
use Rattle.crash_base.specs.declared.numbers.ComponentNo.{ComponentNo}
use Rattle.crash_base.specs.declared.numbers.Level.{Level}
use Rattle.component_pool.specs.Cures.{one_cures}
use Rattle.component_pool.specs.Journal.{reboots_in}
use Rattle.component_pool.specs.Plans.{IsFirstActive, active_plan, counted, makes_fail}
use Rattle.component_pool.specs.Pool.{times}
use Rattle.deployment.specs.Groups.{group_of}
use Rattle.journal_model.proofs.Places.{all_there}
use Rattle.boot_core.specs.Boot.{BootValue}
use Rattle.boot_core.specs.Faults.{fault_of}
use Rattle.call_attempts.specs.Stops.{failure}
use Rattle.unhindered_requests.specs.Tries.{NoFault, Spares, Works}

-- the law that the first active plan is found
abbrev pub FoundFirst : Type 0
FoundFirst = (plans : List FaultPlan) (c entered : ℕ) (reboots : List Level) (number : ℕ) (kind : FaultKind)
    → (active_plan plans c entered reboots ≡ Some (number, kind)) ↔ ((plan : FaultPlan) × IsFirstActive plans c entered reboots number plan × (plan.kind ≡ kind))

both : (a b : Bool) → (a && b) ≡ true → (a ≡ true) × (b ≡ true)
both true true e = (refl, refl)
both true false e = absurd (cc)
both false b e = absurd (cc)

abbrev numbered : ℕ → ComponentNo
numbered n = record { 0 = n }

-- A plan that makes a component fail names it, and no reboot has cured it.
fails_uncured : (x : ComponentNo) (entered : ℕ) (reboots : List Level) (plan : FaultPlan) → makes_fail x.0 entered reboots plan ≡ true → (plan.component ≡ x) × (one_cures reboots plan.cured_by ≡ false)
fails_uncured x entered reboots plan e =
    let here = both (plan.component.0 == x.0) (nat_le plan.after entered && not (one_cures reboots plan.cured_by)) e in
    let uncured = both (nat_le plan.after entered) (not (one_cures reboots plan.cured_by)) here.1 in
    (ap numbered (eqb-true plan.component.0 x.0 here.0), not-true (one_cures reboots plan.cured_by) uncured.1)

module _ (law : FoundFirst) (boot : BootValue) (x : ComponentNo) where
  -- a plan that stops nothing is found only where it makes the component leak
  found_leaks : NoFault boot x → (fault : ℕ) (kind : FaultKind) → fault_of boot x ≡ Some (fault, kind) → kind ≡ Leak
  found_leaks spared fault kind is = by (all_there (Spares boot x) boot.start.plans fault plan spared first.here fails.0)
    where
      reboots : List Level
      reboots = reboots_in boot.entries (group_of boot.start.deployment x.0)

      found : (plan : FaultPlan) × IsFirstActive boot.start.plans x.0 (counted (times boot.entered x.0)) reboots fault plan × (plan.kind ≡ kind)
      found = (law boot.start.plans x.0 (counted (times boot.entered x.0)) reboots fault kind).0 is

      plan : FaultPlan
      plan = found.0

      first : IsFirstActive boot.start.plans x.0 (counted (times boot.entered x.0)) reboots fault plan
      first = found.1

      fails : (plan.component ≡ x) × (one_cures reboots plan.cured_by ≡ false)
      fails = fails_uncured x (counted (times boot.entered x.0)) reboots plan first.active

      by : (plan.kind ≡ Leak) ⊎ (one_cures reboots plan.cured_by ≡ true) → kind ≡ Leak
      by (inl leaks) = sym found.2 ∙ leaks
      by (inr cured) = absurd (let uncured = fails.1 in cc)

  pub works_so : NoFault boot x → Works boot x
  works_so spared = by (fault_of boot x) refl
    where
      by : (found : Option (ℕ × FaultKind)) → fault_of boot x ≡ found → failure x found ≡ None
      by None is = refl
      by (Some (fault, Leak)) is = refl
      by (Some (fault, Hang)) is = absurd (let leaks = found_leaks spared fault Hang is in cc)
      by (Some (fault, Raise)) is = absurd (let leaks = found_leaks spared fault Raise is in cc)

  pub works_unplanned : boot.start.plans ≡ [] → Works boot x
  works_unplanned none = works_so (subst (λ (plans : List FaultPlan). All (Spares boot x) plans) (sym none) (All-nil (Spares boot x)))
