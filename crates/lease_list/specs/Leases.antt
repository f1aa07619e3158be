-- The nodes of a list, as contracts see them.
use Rattle.std.specs.Prelude.{◌≡◌, ℕ, Bool, true, false, ◌&&◌, ◌==◌, nat_lt, List, [], ◌∷◌, ◌++◌, map}
use denote.RawPtr.{Ptr, block_ptr, null_ptr}

-- a node: its number, where it lies, and its value
pub record Lease (T : Type 0) : Type 0 where
  pub number : ℕ
  pub at : Ptr
  pub value : T

-- a list: its nodes, from the first to the last, and the number that the next one gets
pub record LeaseListValue (T : Type 0) : Type 0 where
  pub nodes : List (Lease T)
  pub next : ℕ

-- whether p is where a block begins
abbrev pub is_start : Ptr → Bool
is_start (block_ptr b o) = o == 0
is_start null_ptr = false

-- the first of the pointers, or null
abbrev pub first_place : List Ptr → Ptr
first_place [] = null_ptr
first_place (p ∷ ps) = p

-- the last of a and the pointers
abbrev pub last_place : Ptr → List Ptr → Ptr
last_place a [] = a
last_place a (p ∷ ps) = last_place p ps

module _ {T : Type 0} where
  abbrev pub lease : ℕ → Ptr → T → Lease T
  lease n p v = record { number = n; at = p; value = v }

  abbrev pub list_value : List (Lease T) → ℕ → LeaseListValue T
  list_value ns next = record { nodes = ns; next = next }

  abbrev pub places : List (Lease T) → List Ptr
  places = map (λ n. n.at)

  -- each node lies where a block begins
  abbrev pub all_start : List (Lease T) → Bool
  all_start [] = true
  all_start (n ∷ ns) = is_start n.at && all_start ns

  -- k is below each number
  abbrev pub all_above : ℕ → List (Lease T) → Bool
  all_above k [] = true
  all_above k (n ∷ ns) = nat_lt k n.number && all_above k ns

  -- the numbers rise, and are below next
  abbrev pub rises : ℕ → List (Lease T) → Bool
  rises next [] = true
  rises next (n ∷ ns) = nat_lt n.number next && (all_above n.number ns && rises next ns)

  -- the node stands in the list
  abbrev pub Stands : List (Lease T) → ℕ → Ptr → Type 0
  Stands ns k p = (xs : List (Lease T)) × (v : T) × (ys : List (Lease T)) × (ns ≡ xs ++ lease k p v ∷ ys)

  -- new is old without the node, whose value is v
  abbrev pub Leaves : List (Lease T) → ℕ → Ptr → T → List (Lease T) → Type 0
  Leaves old k p v new = (xs : List (Lease T)) × (ys : List (Lease T)) × (old ≡ xs ++ lease k p v ∷ ys) × (new ≡ xs ++ ys)

  -- the node has the value v
  abbrev pub HasValue : List (Lease T) → ℕ → Ptr → T → Type 0
  HasValue ns k p v = (xs : List (Lease T)) × (ys : List (Lease T)) × (ns ≡ xs ++ lease k p v ∷ ys)
