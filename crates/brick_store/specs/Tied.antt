-- The wheel of a brick has just the items of the pairs that the brick keeps.
use Rattle.std.specs.Prelude.{◌≡◌, Bool, List, ◌∷◌, ◌++◌, Option, Some}
use Rattle.std.specs.declared.cmp.Ordering.{Ordering}
use Rattle.std.specs.BTreeMap.{is_at}
use Rattle.std.specs.Map.{lookup}
use Rattle.lease_wheel.specs.declared.wheel.WheelItem.{WheelItem}
use Rattle.lease_wheel.specs.Leased.{Leased}
use Rattle.lease_wheel.specs.Wheels.{named}
use Rattle.brick_store.specs.declared.kept_map.Pair.{Pair}
use Rattle.brick_store.specs.declared.kept_map.Lease.{Lease}
use Rattle.brick_store.specs.Pairs.{pair_of}
use Rattle.brick_store.specs.contracts.kept_map.PairOrd.TheImpl as pair_ord

-- the order of pairs: by key, and of one key by version
abbrev pub pair_order : Pair → Pair → Ordering
pair_order = (pair_ord.ghosts).cmp

-- whether it is this pair
abbrev pub is_pair : Pair → Pair → Bool
is_pair p = is_at (pair_order p)

-- the lease at a pair
abbrev pub value_at : Pair → List (Pair × Lease) → Option Lease
value_at p = lookup (is_pair p)

-- the item of a pair, and the pair of an item
abbrev pub item_of : Pair → WheelItem
item_of p =
    record {
      key = record { 0 = p.key };
      version = record { node = p.node; boot = p.boot; serial = p.serial };
    }

abbrev pub pair_at : WheelItem → Pair
pair_at item = pair_of item.key item.version

-- a lease on the wheel
abbrev pub leased_by : Pair × Lease → Leased
leased_by (p, lease) = named lease.node (item_of p)

-- the element stands in the list
abbrev pub Has : {X : Type 0} → List X → X → Type 0
Has {X} xs x = (us : List X) × (vs : List X) × (xs ≡ us ++ x ∷ vs)

-- each lease is on the wheel under its pair, and nothing else is
pub record AreTied (es : List (Pair × Lease)) (ds : List Leased) : Type 0 where
  pub there : (p : Pair) (lease : Lease) → value_at p es ≡ Some lease → Has ds (leased_by (p, lease))
  pub back : (d : Leased) → Has ds d
      → (lease : Lease) × (value_at (pair_at d.item) es ≡ Some lease) × (leased_by (pair_at d.item, lease) ≡ d)
