-- What the order of keys says of ids and of tables.
use Rattle.std.proofs.Common.{◌≡◌, ℕ, ◌+◌, Bool, true, false, cond, not, ◌&&◌, ◌==◌, leb, nat_lt, refl, sym, ◌∙◌, arith}
use Rattle.std.proofs.lemmas.Bool.Decides.{nat_tests}
use Rattle.std.specs.BTreeMap.{is_at}
use Rattle.std.specs.BTreeMap.Range.{range_contains, IsLeBy}
use Rattle.std.specs.Ordering.{is_eq, is_le, nat_cmp, ordering_then}
use Rattle.std.specs.declared.cmp.Ordering.{Ordering}
use Rattle.std.specs.declared.cmp.Ordering.TheVariants.{Less, Equal, Greater}
use Rattle.std.specs.declared.ops.Bound.TheVariants.{Included, Excluded}
use Rattle.crash_base.specs.declared.row_id.RowId.{RowId}
use Rattle.crash_base.specs.RowId.{same_id}
use Rattle.row_store.specs.declared.index.RowKey.{RowKey}
use Rattle.row_store.specs.Index.{ids, key_of, first_key}

-- the id of a key
abbrev pub id_of : RowKey → RowId
id_of k = record { table = k.table; key = k.key }

-- the order of two numbers, by the tests for less and for equal
abbrev number_order : Bool → Bool → Ordering
number_order less same = cond less Less (cond same Equal Greater)

is_eq-then : (a b : Ordering) → is_eq (ordering_then a b) ≡ (is_eq a && is_eq b)
is_eq-then Less b = refl
is_eq-then Equal b = refl
is_eq-then Greater b = refl

is_eq-number : (less same : Bool) (x y : ℕ) → nat_lt x y ≡ less → (x == y) ≡ same → is_eq (number_order less same) ≡ same
is_eq-number true true x y l s = absurd (grind (arith, nat_tests))
is_eq-number true false x y l s = refl
is_eq-number false true x y l s = refl
is_eq-number false false x y l s = refl

is_eq-nat_cmp : (x y : ℕ) → is_eq (nat_cmp x y) ≡ (x == y)
is_eq-nat_cmp x y = is_eq-number (nat_lt x y) (x == y) x y refl refl

-- two keys are one exactly where their ids are
pub key_is : (id : RowId) (k : RowKey) → is_at (ids (key_of id)) k ≡ same_id id (id_of k)
key_is id k = is_eq-then (nat_cmp id.table k.table) (nat_cmp id.key k.key) ∙ (λ l. is_eq-nat_cmp id.table k.table l && is_eq-nat_cmp id.key k.key l)

first_by : (less same less' same' : Bool) (t : ℕ) (k : RowKey) → nat_lt t k.table ≡ less → (t == k.table) ≡ same → nat_lt 0 k.key ≡ less' → (0 == k.key) ≡ same'
    → is_le (ordering_then (number_order less same) (number_order less' same')) ≡ leb t k.table
first_by true same less' same' t k l s l' s' = let is : leb t k.table ≡ true = grind (arith, nat_tests) in sym is
first_by false true true same' t k l s l' s' = let is : leb t k.table ≡ true = grind (arith, nat_tests) in sym is
first_by false true false true t k l s l' s' = let is : leb t k.table ≡ true = grind (arith, nat_tests) in sym is
first_by false true false false t k l s l' s' = absurd (grind (arith, nat_tests))
first_by false false less' same' t k l s l' s' = let is : leb t k.table ≡ false = grind (arith, nat_tests) in sym is

-- a key is not before the first of a table exactly where its table is not
first_is : (t : ℕ) (k : RowKey) → is_le (ids (first_key t) k) ≡ leb t k.table
first_is t k = first_by (nat_lt t k.table) (t == k.table) (nat_lt 0 k.key) (0 == k.key) t k refl refl refl refl

between : (t n : ℕ) → (leb t n && not (leb (t + 1) n)) ≡ (n == t)
between t n = grind (arith, nat_tests)

-- a key is between the first ones of two tables exactly where it is of the table
pub table_is : (t : ℕ) (k : RowKey) → range_contains ids (Included (first_key t)) (Excluded (first_key (t + 1))) k ≡ (k.table == t)
table_is t k = (λ l. first_is t k l && not (first_is (t + 1) k l)) ∙ between t k.table

-- the first key of a table comes before that of the next
pub forward : (t : ℕ) → IsLeBy ids (first_key t) (first_key (t + 1))
forward t = let less : nat_lt t (t + 1) ≡ true = grind (arith, nat_tests) in rw less refl
