-- How often the components of a pool were entered.
use Rattle.std.proofs.Common.{◌≡◌, ◌⊎◌, ℕ, ◌+◌, ◌-◌, ◌^◌, ◌<◌, min, Bool, true, false, if◌then◌else◌, ◌==◌, List, length, map, get_or, Some, inl, inr, refl, sym, ap, ◌∙◌, arith}
use Rattle.std.proofs.Math.ListN.{get_or-map}
use Rattle.std.proofs.lemmas.Bool.{cases_eq}
use Rattle.std.proofs.lemmas.Bool.Decides.{nat_tests}
use Rattle.std.proofs.lemmas.List.{ext_get_or, get_or-replicate, get_or-set_same, get_or-set_other, length-map, length-replicate, length-set}
use Rattle.crash_base.specs.declared.fault_plans.FaultPlan.{FaultPlan}
use Rattle.crash_base.specs.declared.numbers.Level.{Level}
use Rattle.crash_base.specs.declared.scope.Scope.{Scope}
use Rattle.crash_base.specs.declared.scope.TheConstants.{MAX_GROUPS}
use Rattle.crash_base.specs.Scope.{holds}
use Rattle.deployment.specs.declared.parts.Parts.{Parts}
use Rattle.component_pool.specs.declared.component.PooledComponent.{PooledComponent}
use Rattle.component_pool.specs.Cures.{wider}
use Rattle.component_pool.specs.Plans.{counted}
use Rattle.component_pool.specs.Pool.{PoolValue, new_component, component_in, entered_in, none_entered, times, one_more, once_entered, once_rebooted, StandsFor, HaveEntered, HaveRebooted}

abbrev count : PooledComponent → ℕ
count one = one.entered

-- the count of a component is what the component says
pub times-entered_in : (pool : PoolValue) (c : ℕ) → times (entered_in pool) c ≡ (component_in pool.components c).entered
times-entered_in pool c = get_or-map count pool.components c (new_component 0)

-- counts are equal where they are so for each component
counts_alike : (components : List PooledComponent) (counts : List ℕ) → length components ≡ MAX_GROUPS → length counts ≡ MAX_GROUPS → ((c : ℕ) → c < MAX_GROUPS → (component_in components c).entered ≡ get_or counts c 0) → map count components ≡ counts
counts_alike components counts many as_many same =
    ext_get_or 0 (map count components) counts (length-map components count ∙ many ∙ sym as_many)
    (λ c within. get_or-map count components c (new_component 0) ∙ same c (omega (arith, within, length-map components count, many)))

pub counted_none : (components : List PooledComponent) (group : ℕ → ℕ) → length components ≡ MAX_GROUPS → ((c : ℕ) → c < MAX_GROUPS → component_in components c ≡ new_component (group c)) → map count components ≡ none_entered
unfolding none_entered
counted_none components group many new =
    let zero : ℕ = 0 in
    counts_alike components none_entered many (length-replicate MAX_GROUPS zero) (λ c within. ap count (new c within) ∙ sym (get_or-replicate MAX_GROUPS c zero zero within))

pub counted_one_more : (old new : List PooledComponent) (c : ℕ) → length old ≡ MAX_GROUPS → length new ≡ MAX_GROUPS → c < MAX_GROUPS → HaveEntered old new c → map count new ≡ one_more (map count old) c
counted_one_more old new c many as_many known entered =
    counts_alike new (one_more (map count old) c) as_many (length-set (map count old) c (counted (times (map count old) c + 1)) ∙ length-map old count ∙ many)
    (λ d within. go d (cases_eq d c) (entered d within))
  where
    at : (d : ℕ) → times (map count old) d ≡ (component_in old d).entered
    at d = get_or-map count old d (new_component 0)

    hit : (d : ℕ) → d ≡ c → (d == c) ≡ true
    hit d e = grind (arith, nat_tests)

    miss : (d : ℕ) → ¬ (d ≡ c) → (d == c) ≡ false
    miss d e = grind (arith, nat_tests)

    go : (d : ℕ) → (d ≡ c) ⊎ ¬ (d ≡ c) → component_in new d ≡ (if d == c then once_entered (component_in old d) else component_in old d) → (component_in new d).entered ≡ get_or (one_more (map count old) c) d 0
    go d (inl e) is =
        ap count (is ∙ ap (λ b. if b then once_entered (component_in old d) else component_in old d) (hit d e))
        ∙ ap (λ n. counted (n + 1)) (sym (at d))
        ∙ ap (λ k. counted (times (map count old) k + 1)) e
        ∙ sym (get_or-set_same (map count old) c (counted (times (map count old) c + 1)) 0 (omega (arith, known, many, length-map old count)))
        ∙ ap (λ k. get_or (one_more (map count old) c) k 0) (sym e)
    go d (inr other) is =
        ap count (is ∙ ap (λ b. if b then once_entered (component_in old d) else component_in old d) (miss d other))
        ∙ sym (at d)
        ∙ sym (get_or-set_other (map count old) c d (counted (times (map count old) c + 1)) 0 other)

rebooted_count : (scope : Scope) (level : Level) (one : PooledComponent) → (once_rebooted scope level one).entered ≡ one.entered
rebooted_count scope level one = go (holds scope one.group.0)
  where
    go : (b : Bool) → (if b then record one { generation = one.generation + 1; widest = Some (wider one.widest level) } else one).entered ≡ one.entered
    go true = refl
    go false = refl

pub counted_rebooted : (old new : List PooledComponent) (scope : Scope) (level : Level) → length old ≡ MAX_GROUPS → length new ≡ MAX_GROUPS → HaveRebooted old new scope level → map count new ≡ map count old
counted_rebooted old new scope level many as_many rebooted =
    counts_alike new (map count old) as_many (length-map old count ∙ many)
    (λ c within. ap count (rebooted c within) ∙ rebooted_count scope level (component_in old c) ∙ sym (get_or-map count old c (new_component 0)))

least : (e n most : ℕ) → e ≡ min n most → e ≡ min e most
least e n most is = omega (arith, is)

-- a pool stands for the counts that it keeps
pub stands_as_counted : (pool : PoolValue) (parts : Parts) (given : List FaultPlan) (enterings : ℕ → ℕ) (reboots : ℕ → List Level) → StandsFor pool parts given enterings reboots → StandsFor pool parts given (times (entered_in pool)) reboots
stands_as_counted pool parts given enterings reboots stands = record {
  plans = stands.plans;
  components = λ c within.
      let h = stands.components c within in
      let e = (component_in pool.components c).entered in
      record {
        group = h.group;
        entered = least e (enterings c) (2 ^ 64 - 1) h.entered ∙ ap counted (sym (times-entered_in pool c));
        generation = h.generation;
        cured = h.cured;
      };
}
