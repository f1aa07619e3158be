-- The items of lists by their expiry.
use Rattle.std.specs.Prelude.{◌≡◌, ℕ, Bool, true, false, List, [], ◌∷◌, ◌++◌, map, IsTrue}
use Rattle.std.specs.Ordering.{nat_cmp}
use Rattle.std.specs.BTreeMap.{is_at}
use Rattle.lease_list.specs.Leases.{Lease, LeaseListValue, rises}
use Rattle.lease_wheel.specs.declared.wheel.WheelItem.{WheelItem}
use Rattle.lease_wheel.specs.Leased.{Leased}

-- the item of a node in the list of an expiry
abbrev pub leased_at : ℕ → Lease WheelItem → Leased
leased_at e n = record { expiry = record { 0 = e }; number = n.number; at = n.at; item = n.value }

-- the items of the list of an expiry
abbrev pub leased_of : ℕ → List (Lease WheelItem) → List Leased
leased_of e = map (leased_at e)

-- the items of all lists
abbrev pub leased_in : List (ℕ × LeaseListValue WheelItem) → List Leased
leased_in [] = []
leased_in (x ∷ xs) = leased_of x.0 x.1.nodes ++ leased_in xs

-- whether there is a node
abbrev pub is_filled : List (Lease WheelItem) → Bool
is_filled [] = false
is_filled (n ∷ ns) = true

-- a list is not empty, and the numbers of its nodes rise
abbrev pub IsSound : LeaseListValue WheelItem → Type 0
IsSound l = (is_filled l.nodes ≡ true) × IsTrue (rises l.next l.nodes)

-- each list is sound
abbrev pub AreSound : List (ℕ × LeaseListValue WheelItem) → Type 0
AreSound [] = Unit {0}
AreSound (x ∷ xs) = IsSound x.1 × AreSound xs

-- whether a list is that of an expiry
abbrev pub at : ℕ → ℕ → Bool
at e = is_at (nat_cmp e)
