-- Pools that follow a journal.
use Rattle.std.proofs.Common.{◌≡◌, ℕ, ◌+◌, ◌-◌, ◌^◌, ◌<◌, nat_lt, Bool, true, false, not, ◌||◌, if◌then◌else◌, List, [], ◌∷◌, ◌++◌, length, refl, ap, ◌∙◌, subst, arith}
use Rattle.std.proofs.lemmas.Bool.Decides.{nat_tests}
use Rattle.crash_base.specs.declared.fault_plans.FaultPlan.{FaultPlan}
use Rattle.crash_base.specs.declared.numbers.Level.{Level}
use Rattle.crash_base.specs.declared.scope.Scope.{Scope}
use Rattle.crash_base.specs.declared.scope.TheConstants.{MAX_GROUPS}
use Rattle.crash_base.specs.Scope.{holds}
use Rattle.deployment.specs.declared.parts.Parts.{Parts}
use Rattle.deployment.specs.Groups.{group_of}
use Rattle.journal_model.specs.declared.entry.CommitEntry.{CommitEntry}
use Rattle.journal_model.specs.declared.entry.Entry.{Entry}
use Rattle.journal_model.specs.declared.entry.Entry.TheVariants.{Commit, Down, Up}
use Rattle.journal_model.specs.Reboots.{generation}
use Rattle.journal_model.proofs.Adding.{generation-few}
use Rattle.component_pool.specs.Cures.{level_of}
use Rattle.component_pool.specs.Journal.{reboots_in}
use Rattle.component_pool.specs.Pool.{PoolValue, component_in, HasComeThrough, StandsFor, rebooted_at, MayReboot}

-- a journal has as many reboots of a group as the group has generations
pub length-reboots_in : (es : List Entry) (g : ℕ) → length (reboots_in es g) ≡ generation es g
length-reboots_in [] g = refl
length-reboots_in (Commit e ∷ es) g = omega (arith, length-reboots_in es g)
length-reboots_in (Down s ∷ es) g = go (holds s g) (length-reboots_in es g)
  where
    go : (b : Bool) → length (reboots_in es g) ≡ generation es g → length (if b then level_of s ∷ reboots_in es g else reboots_in es g) ≡ (if b then 1 else 0) + generation es g
    go true is = omega (arith, is)
    go false is = omega (arith, is)
length-reboots_in (Up s ∷ es) g = omega (arith, length-reboots_in es g)

-- an entry more
pub reboots_in-down : (es : List Entry) (s : Scope) (g : ℕ) → reboots_in (es ++ Down s ∷ []) g ≡ rebooted_at s (level_of s) (reboots_in es) g
reboots_in-down [] s g = refl
reboots_in-down (Commit e ∷ es) s g = reboots_in-down es s g
reboots_in-down (Down r ∷ es) s g = go (holds r g) (holds s g) (reboots_in-down es s g)
  where
    go : (b d : Bool) → reboots_in (es ++ Down s ∷ []) g ≡ (if d then reboots_in es g ++ level_of s ∷ [] else reboots_in es g)
        → (if b then level_of r ∷ reboots_in (es ++ Down s ∷ []) g else reboots_in (es ++ Down s ∷ []) g)
        ≡ (if d then (if b then level_of r ∷ reboots_in es g else reboots_in es g) ++ level_of s ∷ [] else (if b then level_of r ∷ reboots_in es g else reboots_in es g))
    go true true is = ap (λ ls. level_of r ∷ ls) is
    go true false is = ap (λ ls. level_of r ∷ ls) is
    go false true is = is
    go false false is = is
reboots_in-down (Up r ∷ es) s g = reboots_in-down es s g

pub reboots_in-commit : (es : List Entry) (e : CommitEntry) (g : ℕ) → reboots_in (es ++ Commit e ∷ []) g ≡ reboots_in es g
reboots_in-commit [] e g = refl
reboots_in-commit (Commit d ∷ es) e g = reboots_in-commit es e g
reboots_in-commit (Down r ∷ es) e g = ap (λ ls. if holds r g then level_of r ∷ ls else ls) (reboots_in-commit es e g)
reboots_in-commit (Up r ∷ es) e g = reboots_in-commit es e g

pub reboots_in-up : (es : List Entry) (s : Scope) (g : ℕ) → reboots_in (es ++ Up s ∷ []) g ≡ reboots_in es g
reboots_in-up [] s g = refl
reboots_in-up (Commit d ∷ es) s g = reboots_in-up es s g
reboots_in-up (Down r ∷ es) s g = ap (λ ls. if holds r g then level_of r ∷ ls else ls) (reboots_in-up es s g)
reboots_in-up (Up r ∷ es) s g = reboots_in-up es s g

-- what a pool stands for is a matter of each group's reboots
pub stands_alike : (pool : PoolValue) (parts : Parts) (given : List FaultPlan) (enterings : ℕ → ℕ) (reboots other : ℕ → List Level) → ((g : ℕ) → reboots g ≡ other g) → StandsFor pool parts given enterings reboots → StandsFor pool parts given enterings other
stands_alike pool parts given enterings reboots other same stands = record {
  plans = stands.plans;
  components = λ c within.
      let P : List Level → Type 0 = λ ls. HasComeThrough (component_in pool.components c) (group_of parts c) (enterings c) ls in
      subst P (same (group_of parts c)) (stands.components c within);
}

-- a pool that follows a journal has its generations
pub follows_generation : (pool : PoolValue) (parts : Parts) (given : List FaultPlan) (enterings : ℕ → ℕ) (es : List Entry) → StandsFor pool parts given enterings (reboots_in es) → (c : ℕ) → c < MAX_GROUPS → (component_in pool.components c).generation ≡ generation es (group_of parts c)
follows_generation pool parts given enterings es stands c within = (stands.components c within).generation ∙ length-reboots_in es (group_of parts c)

has_next_few : (held : Bool) (n most : ℕ) → n < most → (not held || nat_lt n most) ≡ true
has_next_few true n most few = grind (arith, nat_tests)
has_next_few false n most few = refl

-- and may be rebooted where one entry more is fewer than a u64 counts
pub follows_may : (pool : PoolValue) (parts : Parts) (given : List FaultPlan) (enterings : ℕ → ℕ) (es : List Entry) (s : Scope) → StandsFor pool parts given enterings (reboots_in es) → length es + 1 < 2 ^ 64 → MayReboot pool.components s
follows_may pool parts given enterings es s stands few c within =
    let one = component_in pool.components c in
    let is = follows_generation pool parts given enterings es stands c within in
    has_next_few (holds s one.group.0) one.generation (2 ^ 64 - 1) (omega (arith, few, is, generation-few es (group_of parts c)))
