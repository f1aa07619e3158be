-- A pool, as contracts see it.
use Rattle.std.specs.Prelude.{◌≡◌, ◌<◌, ℕ, ◌+◌, ◌-◌, ◌^◌, ◌==◌, ◌&&◌, ◌||◌, nat_le, nat_lt, not, Bool, true, false, if◌then◌else◌, List, [], ◌∷◌, ◌++◌, length, Option, Some, None, slice_index_or, slice_set, replicate, map, option_and_then, position}
use Rattle.std.specs.List.{list_any}
use Rattle.crash_base.specs.declared.fault_plans.FaultKind.{FaultKind}
use Rattle.crash_base.specs.declared.fault_plans.FaultPlan.{FaultPlan}
use Rattle.crash_base.specs.declared.numbers.Level.{Level}
use Rattle.crash_base.specs.declared.scope.Scope.{Scope}
use Rattle.crash_base.specs.declared.scope.TheConstants.{MAX_GROUPS}
use Rattle.crash_base.specs.Scope.{holds}
use Rattle.deployment.specs.declared.parts.Parts.{Parts}
use Rattle.deployment.specs.Groups.{group_of, group_no}
use Rattle.component_pool.specs.declared.component.PooledComponent.{PooledComponent}
use Rattle.component_pool.specs.declared.instance.Instance.{Instance}
use Rattle.component_pool.specs.Cures.{one_cures, widest_cures, wider}
use Rattle.component_pool.specs.Instances.{instance_in, left_idle, idle_of}
use Rattle.component_pool.specs.Plans.{counted, plan_at}

-- the plans as they were given, what is known of each component, and the instances by their numbers
pub record PoolValue : Type 0 where
  pub plans : List FaultPlan
  pub components : List PooledComponent
  pub instances : List (Option Instance)

-- a component of a group that was never entered and never rebooted
abbrev pub new_component : ℕ → PooledComponent
new_component g = record { group = group_no g; entered = 0; generation = 0; widest = None }

-- how often each component was entered, by its number, counted up to 2^64 - 1
abbrev pub entered_in : PoolValue → List ℕ
entered_in pool = map (λ (one : PooledComponent). one.entered) pool.components

-- the counts where no component was entered yet
unfoldable pub none_entered : List ℕ
none_entered = replicate MAX_GROUPS 0

-- how often a component was entered, by these counts
abbrev pub times : List ℕ → ℕ → ℕ
times entered c = slice_index_or entered c 0

-- the counts after one entering more of a component
abbrev pub one_more : List ℕ → ℕ → List ℕ
one_more entered c = slice_set entered c (counted (times entered c + 1))

-- a component among these
abbrev pub component_in : List PooledComponent → ℕ → PooledComponent
component_in components c = slice_index_or components c (new_component 0)

-- A component stands for how often it was entered, and for the levels of the reboots of its group, in order: it has
-- this group, counts the enterings up to 2^64 - 1, has as many generations as there were reboots, and takes for cured
-- what one of them cures.
pub record HasComeThrough (one : PooledComponent) (own_group enterings : ℕ) (reboots : List Level) : Type 0 where
  pub group : one.group.0 ≡ own_group
  pub entered : one.entered ≡ counted enterings
  pub generation : one.generation ≡ length reboots
  pub cured : (level : Level) → widest_cures one.widest level ≡ one_cures reboots level

-- A pool stands for what its plans and its groups were given as, for how often each component was entered, and for the
-- levels of the reboots of each group.
pub record StandsFor (pool : PoolValue) (parts : Parts) (given : List FaultPlan) (enterings : ℕ → ℕ) (reboots : ℕ → List Level) : Type 0 where
  pub plans : pool.plans ≡ given
  pub components : (c : ℕ) → c < MAX_GROUPS → HasComeThrough (component_in pool.components c) (group_of parts c) (enterings c) (reboots (group_of parts c))

-- one entering more of a component
abbrev pub once_more : ℕ → (ℕ → ℕ) → ℕ → ℕ
once_more c enterings d = if d == c then enterings d + 1 else enterings d

-- one reboot more, of the groups of a scope
abbrev pub rebooted_at : Scope → Level → (ℕ → List Level) → ℕ → List Level
rebooted_at scope level reboots g = if holds scope g then reboots g ++ level ∷ [] else reboots g

-- a component that was entered once more
abbrev pub once_entered : PooledComponent → PooledComponent
once_entered one = record one { entered = counted (one.entered + 1) }

-- a component whose group was rebooted at a level, where a scope holds it
abbrev pub once_rebooted : Scope → Level → PooledComponent → PooledComponent
once_rebooted scope level one =
    if holds scope one.group.0
    then record one { generation = one.generation + 1; widest = Some (wider one.widest level) }
    else one

-- A component was entered once more, and all others are as they were.
abbrev pub HaveEntered : List PooledComponent → List PooledComponent → ℕ → Type 0
HaveEntered old new c =
    (d : ℕ) → d < MAX_GROUPS → component_in new d ≡ (if d == c then once_entered (component_in old d) else component_in old d)

-- The components of the groups of a scope were rebooted at a level, and all others are as they were.
abbrev pub HaveRebooted : List PooledComponent → List PooledComponent → Scope → Level → Type 0
HaveRebooted old new scope level =
    (c : ℕ) → c < MAX_GROUPS → component_in new c ≡ once_rebooted scope level (component_in old c)

-- whether a scope holds the group of a component
abbrev pub is_held : List PooledComponent → Scope → ℕ → Bool
is_held components scope c = holds scope (component_in components c).group.0

-- Each instance is of a component, and no stale one is idle: an idle instance was made in the present generation of its
-- component, so no reboot of a group that holds it came since.
pub record AreFresh (components : List PooledComponent) (instances : List (Option Instance)) : Type 0 where
  pub known : (n : ℕ) (i : Instance) → instance_in instances n ≡ Some i → i.component.0 < MAX_GROUPS
  pub present : (n : ℕ) (i : Instance) → instance_in instances n ≡ Some i → i.is_taken ≡ false
      → i.generation ≡ (component_in components i.component.0).generation

-- what a pool keeps: a component for each number, and no stale instance idle
pub record IsPool (components : List PooledComponent) (instances : List (Option Instance)) : Type 0 where
  pub many : length components ≡ MAX_GROUPS
  pub fresh : AreFresh components instances

-- What is left of an instance that is given back: it is idle where it was made in the present generation of its
-- component, and else it is gone. One that is not taken stays as it is.
abbrev pub given_back : List PooledComponent → Option Instance → Option Instance
given_back components None = None
given_back components (Some i) =
    if i.is_taken
    then (if i.generation == (component_in components i.component.0).generation
    then Some (idle_of i.component i.generation)
    else None)
    else Some i

-- The instances of these numbers were given back, and all others are as they were.
abbrev pub AreGivenBack : List PooledComponent → List ℕ → List (Option Instance) → List (Option Instance) → Type 0
AreGivenBack components numbers old new =
    (n : ℕ) → instance_in new n ≡ (if list_any (λ m. m == n) numbers then given_back components (instance_in old n) else instance_in old n)

-- The instances once those that are idle of the groups of a scope are gone.
abbrev pub AreLeftIdle : List PooledComponent → Scope → List (Option Instance) → List (Option Instance) → Type 0
AreLeftIdle components scope old new =
    (n : ℕ) → instance_in new n ≡ left_idle (is_held components scope) (instance_in old n)

-- whether a plan makes a component fail, by what is known of that one
abbrev pub makes_fail_now : ℕ → PooledComponent → FaultPlan → Bool
makes_fail_now c one plan =
    (plan.component.0 == c) && (nat_le plan.after one.entered && not (widest_cures one.widest plan.cured_by))

-- the number and the kind of the first plan that makes a component fail, by what a pool knows
abbrev pub active_now : PoolValue → ℕ → Option (ℕ × FaultKind)
active_now pool c =
    option_and_then (plan_at pool.plans) (position (makes_fail_now c (component_in pool.components c)) pool.plans)

-- whether a component may be rebooted with a scope once more: its generation is not the greatest that there is
abbrev pub has_next : Scope → PooledComponent → Bool
has_next scope one = not (holds scope one.group.0) || nat_lt one.generation (2 ^ 64 - 1)

-- The groups of a scope may be rebooted once more.
abbrev pub MayReboot : List PooledComponent → Scope → Type 0
MayReboot components scope = (c : ℕ) → c < MAX_GROUPS → has_next scope (component_in components c) ≡ true
