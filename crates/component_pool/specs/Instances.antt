-- The instances of a pool.
use Rattle.std.specs.Prelude.{◌≡◌, ◌≢◌, ◌⊎◌, ℕ, ◌&&◌, Bool, true, false, not, if◌then◌else◌, List, Option, Some, None, slice_index_or}
use Rattle.crash_base.specs.declared.numbers.ComponentNo.{ComponentNo}
use Rattle.component_pool.specs.declared.instance.Instance.{Instance}

-- the instance of a number, if there is one
abbrev pub instance_in : List (Option Instance) → ℕ → Option Instance
instance_in instances n = slice_index_or instances n None

-- an instance of a component that was made in a generation, taken or idle
abbrev pub taken_of : ComponentNo → ℕ → Instance
taken_of c generation = record { component = c; generation = generation; is_taken = true }

abbrev pub idle_of : ComponentNo → ℕ → Instance
idle_of c generation = record { component = c; generation = generation; is_taken = false }

-- whether there is an instance that is taken
abbrev pub has_taken : Option Instance → Bool
has_taken None = false
has_taken (Some i) = i.is_taken

-- An instance of a component was taken under a number: an idle one, or a new one where none of the component was idle.
-- It is of this generation, and every other instance is as it was.
pub record HasTaken (old new : List (Option Instance)) (c : ComponentNo) (generation n : ℕ) : Type 0 where
  pub before : (instance_in old n ≡ Some (idle_of c generation)) ⊎ ((instance_in old n ≡ None)
      × ((m : ℕ) → instance_in old m ≢ Some (idle_of c generation)))
  pub after : instance_in new n ≡ Some (taken_of c generation)
  pub others : (m : ℕ) → m ≢ n → instance_in new m ≡ instance_in old m

-- what is left of an instance where the idle ones of some components go
abbrev pub left_idle : (ℕ → Bool) → Option Instance → Option Instance
left_idle gone None = None
left_idle gone (Some i) = if not i.is_taken && gone i.component.0 then None else Some i
