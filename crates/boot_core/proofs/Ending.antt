-- Which plans a reboot ends.
use Rattle.std.proofs.Common.{◌≡◌, ◌≢◌, ◌&&◌, ◌||◌, ◌+◌, ℕ, ◌==◌, nat_le, Bool, true, false, not, if◌then◌else◌, List, [], ◌∷◌, ◌++◌, refl, ap, ◌∙◌}
use Rattle.std.proofs.lemmas.List.{get_or-set_other}
use Rattle.crash_base.specs.declared.fault_plans.FaultPlan.{FaultPlan}
use Rattle.crash_base.specs.declared.numbers.ComponentNo.{ComponentNo}
use Rattle.crash_base.specs.declared.numbers.Level.{Level}
use Rattle.crash_base.specs.declared.scope.Scope.{Scope}
use Rattle.crash_base.specs.Scope.{holds}
use Rattle.deployment.specs.Groups.{group_of}
use Rattle.journal_model.specs.declared.entry.CommitEntry.{CommitEntry}
use Rattle.journal_model.specs.declared.entry.Entry.TheVariants.{Commit, Down, Up}
use Rattle.component_pool.specs.Cures.{cures, level_of, one_cures}
use Rattle.component_pool.specs.Journal.{reboots_in}
use Rattle.component_pool.specs.Plans.{active_plan, counted, makes_fail}
use Rattle.component_pool.specs.Pool.{times}
use Rattle.component_pool.proofs.Curing.{one_more_cures}
use Rattle.component_pool.proofs.Journals.{reboots_in-commit, reboots_in-down, reboots_in-up}
use Rattle.boot_core.specs.Boot.{BootValue, with_entered, with_entry}
use Rattle.boot_core.specs.Faults.{fault_of, makes_fail_in}

-- what a component fails by is a matter of the reboots of its group
alike : (b : BootValue) (c : ComponentNo) (reboots : List Level) → reboots ≡ reboots_in b.entries (group_of b.start.deployment c.0) → active_plan b.start.plans c.0 (counted (times b.entered c.0)) reboots ≡ fault_of b c
alike b c reboots same = ap (active_plan b.start.plans c.0 (counted (times b.entered c.0))) same

pub same_after_commit : (b : BootValue) (e : CommitEntry) (c : ComponentNo) → fault_of (with_entry b (Commit e)) c ≡ fault_of b c
same_after_commit b e c = let g = group_of b.start.deployment c.0 in alike b c (reboots_in (b.entries ++ Commit e ∷ []) g) (reboots_in-commit b.entries e g)

pub same_after_up : (b : BootValue) (s : Scope) (c : ComponentNo) → fault_of (with_entry b (Up s)) c ≡ fault_of b c
same_after_up b s c = let g = group_of b.start.deployment c.0 in alike b c (reboots_in (b.entries ++ Up s ∷ []) g) (reboots_in-up b.entries s g)

pub same_beside : (b : BootValue) (s : Scope) (c : ComponentNo) → holds s (group_of b.start.deployment c.0) ≡ false → fault_of (with_entry b (Down s)) c ≡ fault_of b c
same_beside b s c beside =
    let g = group_of b.start.deployment c.0 in
    alike b c (reboots_in (b.entries ++ Down s ∷ []) g) (reboots_in-down b.entries s g ∙ ap (λ h. if h then reboots_in b.entries g ++ level_of s ∷ [] else reboots_in b.entries g) beside)

-- an enter of another component
pub same_after_others : (b : BootValue) (c d : ComponentNo) → c.0 ≢ d.0 → fault_of (with_entered b d) c ≡ fault_of b c
same_after_others b c d other =
    let g = group_of b.start.deployment c.0 in
    ap (λ (n : ℕ). active_plan b.start.plans c.0 (counted n) (reboots_in b.entries g)) (get_or-set_other b.entered d.0 c.0 (counted (times b.entered d.0 + 1)) 0 other)

ends : (own after cured cures : Bool) → (own && (after && not (cured || cures))) ≡ ((own && (after && not cured)) && not cures)
ends false after cured cures = refl
ends true false cured cures = refl
ends true true true cures = refl
ends true true false cures = refl

-- a Down that holds the group
pub ended_by : (b : BootValue) (s : Scope) (c : ComponentNo) (plan : FaultPlan) → holds s (group_of b.start.deployment c.0) ≡ true → makes_fail_in (with_entry b (Down s)) c plan ≡ (makes_fail_in b c plan && not (cures (level_of s) plan.cured_by))
ended_by b s c plan held =
    let g = group_of b.start.deployment c.0 in
    let before = reboots_in b.entries g in
    let n : ℕ = counted (times b.entered c.0) in
    let own = plan.component.0 == c.0 in
    let one_more : reboots_in (b.entries ++ Down s ∷ []) g ≡ before ++ level_of s ∷ [] = reboots_in-down b.entries s g ∙ ap (λ h. if h then before ++ level_of s ∷ [] else before) held in
    ap (λ reboots. makes_fail c.0 n reboots plan) one_more
    ∙ ap (λ cured. own && (nat_le plan.after n && not cured)) (one_more_cures before (level_of s) plan.cured_by)
    ∙ ends own (nat_le plan.after n) (one_cures before plan.cured_by) (cures (level_of s) plan.cured_by)
