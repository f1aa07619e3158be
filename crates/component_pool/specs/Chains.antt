-- How idle instances are found. No public clause cites this module.
use Rattle.std.specs.Prelude.{◌≡◌, ◌<◌, ◌⊎◌, ℕ, true, false, List, [], ◌∷◌, length, map, replicate, Option, Some, None, option_map, slice_index_or}
use Rattle.crash_base.specs.declared.scope.TheConstants.{MAX_GROUPS}
use Rattle.component_pool.specs.declared.instance.Instance.{Instance}
use Rattle.component_pool.specs.declared.chains.Linked.{Linked}

-- what is under a key, if there is something
abbrev pub linked_in : List (Option Linked) → ℕ → Option Linked
linked_in slots key = slice_index_or slots key None

-- the instances without their links
abbrev pub shown : List (Option Linked) → List (Option Instance)
shown slots = map (option_map (λ (l : Linked). l.instance)) slots

-- whether a number is in a list
abbrev pub IsIn : ℕ → List ℕ → Type 0
IsIn n [] = ⊥
IsIn n (k ∷ ks) = (n ≡ k) ⊎ IsIn n ks

-- Under a key there is an idle instance of a component.
pub record IsIdleAt (slots : List (Option Linked)) (c key : ℕ) (l : Linked) : Type 0 where
  pub found : linked_in slots key ≡ Some l
  pub own : l.instance.component.0 ≡ c
  pub idle : l.instance.is_taken ≡ false

-- These keys are chained: the first is given, each of the others is linked by the one before, each has an idle instance
-- of the component, and no key comes twice.
abbrev pub IsChain : List (Option Linked) → ℕ → Option ℕ → List ℕ → Type 0
IsChain slots c first [] = first ≡ None
IsChain slots c first (k ∷ ks) =
    (first ≡ Some k) × ((l : Linked) × IsIdleAt slots c k l × IsChain slots c l.next ks)
    × ¬ IsIn k ks

-- The chain that begins with a key has every idle instance of a component.
pub record IsIdleChain (slots : List (Option Linked)) (c : ℕ) (first : Option ℕ) : Type 0 where
  pub keys : List ℕ
  pub chain : IsChain slots c first keys
  pub whole : (n : ℕ) (l : Linked) → IsIdleAt slots c n l → IsIn n keys

-- Each component has a chain of its idle instances, and each instance is of a component.
pub record AreChained (slots : List (Option Linked)) (firsts : List (Option ℕ)) : Type 0 where
  pub many : length firsts ≡ MAX_GROUPS
  pub known : (n : ℕ) (l : Linked) → linked_in slots n ≡ Some l → l.instance.component.0 < MAX_GROUPS
  pub chains : (c : ℕ) → c < MAX_GROUPS → IsIdleChain slots c (slice_index_or firsts c None)

-- Nothing of a component is idle.
abbrev pub NoneIdle : List (Option Linked) → ℕ → Type 0
NoneIdle slots c = (n : ℕ) (l : Linked) → ¬ IsIdleAt slots c n l

-- an instance that is taken, which links to none
abbrev pub linked_taken : Instance → Linked
linked_taken i = record { instance = record i { is_taken = true }; next = None }

-- an idle instance, with the one that is taken after it
abbrev pub linked_idle : Instance → Option ℕ → Linked
linked_idle i next = record { instance = record i { is_taken = false }; next = next }

-- Under a key there is what was there, or nothing any more where an idle instance of a component was.
abbrev pub IsDropped : List (Option Linked) → List (Option Linked) → ℕ → ℕ → Type 0
IsDropped old new c n =
    (linked_in new n ≡ linked_in old n)
    ⊎ ((l : Linked) × IsIdleAt old c n l × (linked_in new n ≡ None))

-- the chains of components without instances: none has a first key
unfoldable pub no_firsts : List (Option ℕ)
no_firsts = replicate MAX_GROUPS None
