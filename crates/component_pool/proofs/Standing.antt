-- What a pool stands for, call by call.
use Rattle.std.proofs.Common.{◌≡◌, ℕ, ◌+◌, ◌-◌, ◌^◌, ◌<◌, ◌≤◌, min, nat_le, Bool, true, false, not, ◌==◌, ◌&&◌, ◌||◌, if◌then◌else◌, List, [], ◌∷◌, ◌++◌, length, get_or, set, inl, inr, Some, refl, sym, ap, ◌∙◌, subst, arith, length-append}
use Rattle.std.specs.List.{list_all}
use Rattle.std.specs.Option.{option_and_then}
use Rattle.std.proofs.lemmas.Bool.{cases_eq}
use Rattle.std.proofs.lemmas.Bool.Decides.{nat_tests}
use Rattle.std.proofs.lemmas.List.{get_or_default, get_or-set_same, get_or-set_other, length-set}
use Rattle.std.proofs.lemmas.List.Folds.{list_any_none}
use Rattle.std.proofs.lemmas.List.Sums.{AllPass-from_list_all, list_all-from_AllPass}
use Rattle.crash_base.specs.declared.fault_plans.FaultPlan.{FaultPlan}
use Rattle.crash_base.specs.declared.numbers.Level.{Level}
use Rattle.crash_base.specs.declared.scope.Scope.{Scope}
use Rattle.crash_base.specs.declared.scope.TheConstants.{MAX_GROUPS}
use Rattle.crash_base.specs.Scope.{holds}
use Rattle.deployment.specs.declared.parts.Parts.{Parts}
use Rattle.deployment.specs.declared.parts.Reference.{Reference}
use Rattle.deployment.specs.Groups.{group_of, has_hard}
use Rattle.deployment.specs.Sound.{AreSound}
use Rattle.component_pool.specs.declared.component.PooledComponent.{PooledComponent}
use Rattle.component_pool.specs.Cures.{cures, widest_cures, wider}
use Rattle.component_pool.specs.Plans.{makes_fail, plan_at, active_plan, counted}
use Rattle.component_pool.specs.Pool.{PoolValue, new_component, component_in, HasComeThrough, StandsFor, once_more, rebooted_at, once_entered, once_rebooted, HaveEntered, HaveRebooted, makes_fail_now, active_now, has_next, MayReboot}
use Rattle.component_pool.proofs.Curing.{wider_cures, one_more_cures}
use Rattle.component_pool.proofs.Finding.{position_alike}

-- a number past the components is its own group
apart : (hard : Bool) (a b n len : ℕ) → a < len → b < len → len ≤ n → (hard && ((a == n) || (b == n))) ≡ false
apart false a b n len la lb past = refl
apart true a b n len la lb past = grind (arith, nat_tests)

pub unlinked : (parts : Parts) (n : ℕ) → AreSound parts → length parts.components ≤ n → has_hard parts.references n ≡ false
unlinked parts n sound past =
    list_any_none (λ (r : Reference). r.hard && ((r.from.0 == n) || (r.to.0 == n))) parts.references
    (λ k d within. let r = get_or parts.references k d in let known = sound.references k d within in apart r.hard r.from.0 r.to.0 n (length parts.components) known.0 known.1 past)

-- a new component has come through nothing
pub come_through_nothing : (one : PooledComponent) (g : ℕ) → one ≡ new_component g → HasComeThrough one g 0 []
come_through_nothing one g is =
    let P : PooledComponent → Type 0 = λ x. HasComeThrough x g 0 [] in
    subst P (sym is) (record { group = refl; entered = refl; generation = refl; cured = λ level. refl })

count_more : (n e most : ℕ) → e ≡ min n most → min (e + 1) most ≡ min (n + 1) most
count_more n e most is = omega (arith, is)

entered_once : (one : PooledComponent) (g n : ℕ) (reboots : List Level) → HasComeThrough one g n reboots → HasComeThrough (once_entered one) g (n + 1) reboots
entered_once one g n reboots h = record {
  group = h.group;
  entered = count_more n one.entered (2 ^ 64 - 1) h.entered;
  generation = h.generation;
  cured = h.cured;
}

pub stands_entered : (old new : PoolValue) (c : ℕ) → HaveEntered old.components new.components c → new.plans ≡ old.plans → (parts : Parts) (given : List FaultPlan) (enterings : ℕ → ℕ) (reboots : ℕ → List Level) → StandsFor old parts given enterings reboots
    → StandsFor new parts given (once_more c enterings) reboots
stands_entered old new c entered same parts given enterings reboots stands = record {
  plans = same ∙ stands.plans;
  components = λ d within. go d (stands.components d within) (d == c) (entered d within);
}
  where
    go : (d : ℕ) → HasComeThrough (component_in old.components d) (group_of parts d) (enterings d) (reboots (group_of parts d)) → (b : Bool)
        → component_in new.components d ≡ (if b then once_entered (component_in old.components d) else component_in old.components d)
        → HasComeThrough (component_in new.components d) (group_of parts d) (if b then enterings d + 1 else enterings d) (reboots (group_of parts d))
    go d was true is =
        let P : PooledComponent → Type 0 = λ x. HasComeThrough x (group_of parts d) (enterings d + 1) (reboots (group_of parts d)) in
        subst P (sym is) (entered_once (component_in old.components d) (group_of parts d) (enterings d) (reboots (group_of parts d)) was)
    go d was false is =
        let P : PooledComponent → Type 0 = λ x. HasComeThrough x (group_of parts d) (enterings d) (reboots (group_of parts d)) in
        subst P (sym is) was

rebooted_once : (scope : Scope) (level : Level) (one : PooledComponent) (g n : ℕ) (reboots : List Level) → HasComeThrough one g n reboots
    → HasComeThrough (once_rebooted scope level one) g n (if holds scope g then reboots ++ level ∷ [] else reboots)
rebooted_once scope level one g n reboots h = go (holds scope g) (ap (holds scope) h.group)
  where
    go : (b : Bool) → holds scope one.group.0 ≡ b → HasComeThrough (once_rebooted scope level one) g n (if b then reboots ++ level ∷ [] else reboots)
    go true is =
        let more = record one { generation = one.generation + 1; widest = Some (wider one.widest level) } in
        let P : PooledComponent → Type 0 = λ x. HasComeThrough x g n (reboots ++ level ∷ []) in
        let now : once_rebooted scope level one ≡ more = ap (λ b. if b then more else one) is in
        subst P (sym now) (record {
          group = h.group;
          entered = h.entered;
          generation = omega (arith, h.generation, length-append reboots (level ∷ []));
          cured = λ l. wider_cures one.widest level l ∙ ap (λ b. b || cures level l) (h.cured l) ∙ sym (one_more_cures reboots level l);
        })
    go false is =
        let more = record one { generation = one.generation + 1; widest = Some (wider one.widest level) } in
        let P : PooledComponent → Type 0 = λ x. HasComeThrough x g n reboots in
        let now : once_rebooted scope level one ≡ one = ap (λ b. if b then more else one) is in
        subst P (sym now) h

pub stands_rebooted : (old new : PoolValue) (scope : Scope) (level : Level) → HaveRebooted old.components new.components scope level → new.plans ≡ old.plans → (parts : Parts) (given : List FaultPlan) (enterings : ℕ → ℕ) (reboots : ℕ → List Level)
    → StandsFor old parts given enterings reboots → StandsFor new parts given enterings (rebooted_at scope level reboots)
stands_rebooted old new scope level rebooted same parts given enterings reboots stands = record {
  plans = same ∙ stands.plans;
  components = λ c within.
      let P : PooledComponent → Type 0 = λ x. HasComeThrough x (group_of parts c) (enterings c) (rebooted_at scope level reboots (group_of parts c)) in
      subst P (sym (rebooted c within)) (rebooted_once scope level (component_in old.components c) (group_of parts c) (enterings c) (reboots (group_of parts c)) (stands.components c within));
}

-- what a pool knows of plans is what it stands for
pub active_stands : (pool : PoolValue) (c : ℕ) → c < MAX_GROUPS → (parts : Parts) (given : List FaultPlan) (enterings : ℕ → ℕ) (reboots : ℕ → List Level) → StandsFor pool parts given enterings reboots
    → active_now pool c ≡ active_plan given c (counted (enterings c)) (reboots (group_of parts c))
active_stands pool c within parts given enterings reboots stands =
    let one = component_in pool.components c in
    let h = stands.components c within in
    let past = reboots (group_of parts c) in
    let times = counted (enterings c) in
    let alike : (k : ℕ) (d : FaultPlan) → k < length pool.plans → makes_fail_now c one (get_or pool.plans k d) ≡ makes_fail c times past (get_or pool.plans k d) = λ k d lt.
    let plan = get_or pool.plans k d in
    ap (λ (n : ℕ). (plan.component.0 == c) && (nat_le plan.after n && not (widest_cures one.widest plan.cured_by))) h.entered
    ∙ ap (λ b. (plan.component.0 == c) && (nat_le plan.after times && not b)) (h.cured plan.cured_by) in
    ap (option_and_then (plan_at pool.plans)) (position_alike (makes_fail_now c one) (makes_fail c times past) pool.plans alike)
    ∙ ap (λ plans. active_plan plans c times past) stands.plans

-- each component may be rebooted once more
pub may_by_list : (components : List PooledComponent) (scope : Scope) → length components ≡ MAX_GROUPS → list_all (has_next scope) components ≡ true → MayReboot components scope
may_by_list components scope many all c within = AllPass-from_list_all (has_next scope) components all c (new_component 0) (omega (arith, many, within))

pub list_by_may : (components : List PooledComponent) (scope : Scope) → length components ≡ MAX_GROUPS → MayReboot components scope → list_all (has_next scope) components ≡ true
list_by_may components scope many may =
    list_all-from_AllPass (has_next scope) components
    (λ k d within. ap (has_next scope) (get_or_default components k d (new_component 0) within) ∙ may k (omega (arith, many, within)))

-- components that are made one after another
pub record AreMade (group : ℕ → ℕ) (components : List PooledComponent) (number : ℕ) : Type 0 where
  pub many : length components ≡ MAX_GROUPS
  pub below : (c : ℕ) → c < number → component_in components c ≡ new_component (group c)

pub made_more : (group : ℕ → ℕ) (components : List PooledComponent) (number : ℕ) (one : PooledComponent) → number < MAX_GROUPS → AreMade group components number → one ≡ new_component (group number) → AreMade group (set components number one) (number + 1)
made_more group components number one within made is = record {
  many = length-set components number one ∙ made.many;
  below = λ c lt. elim (cases_eq c number) [
    | inl e ↦
        ap (component_in (set components number one)) e
        ∙ get_or-set_same components number one (new_component 0) (omega (arith, made.many, within))
        ∙ is ∙ ap (λ (n : ℕ). new_component (group n)) (sym e)
    | inr other ↦ get_or-set_other components number c one (new_component 0) other ∙ made.below c (omega (arith, lt, other))
  ];
}
