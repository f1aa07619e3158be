-- Rows in order are halved by whether they come before an id.
use Rattle.std.proofs.Common.{◌≡◌, ℕ, zero, suc, ◌<◌, ◌≤◌, Bool, true, false, not, List, [], ◌∷◌, length, map, get_or, All, Bor, ap, arith}
use Rattle.std.specs.List.{position_or_len}
use Rattle.std.specs.List.Sorted.{IsPartitionedBy, IsPartitionPoint}
use Rattle.std.proofs.lemmas.List.Elements.{All-head, All-tail}
use Rattle.std.proofs.lemmas.List.Sums.{position_or_len_is}
use Rattle.crash_base.specs.declared.row_id.RowId.{RowId}
use Rattle.crash_base.specs.declared.rows.RowWrite.{RowWrite}
use Rattle.crash_base.specs.RowId.{id_before}
use Rattle.crash_base.specs.Rows.{AreOrdered}
use Rattle.crash_base.proofs.IdOrder.{id_before_trans}

abbrev pub now : Bor RowWrite → RowWrite
now r = r.now

-- whether a lent row comes before this id
abbrev pub is_lower : RowId → Bor RowWrite → Bool
is_lower id r = id_before r.now.id id

later : (a : RowId) (rows : List (Bor RowWrite)) (j : ℕ) (d : Bor RowWrite) → All (λ (s : RowWrite). id_before a s.id ≡ true) (map now rows) → j < length rows → id_before a (get_or rows j d).now.id ≡ true
later a [] j d all within = absurd (omega arith)
later a (r ∷ rs) zero d all within = All-head (λ (s : RowWrite). id_before a s.id ≡ true) r.now (map now rs) all
later a (r ∷ rs) (suc j) d all within = later a rs j d (All-tail (λ (s : RowWrite). id_before a s.id ≡ true) r.now (map now rs) all) (omega arith)

split_pair : (id : RowId) (rows : List (Bor RowWrite)) (i j : ℕ) (d : Bor RowWrite) → AreOrdered (map now rows) → i ≤ j → j < length rows → is_lower id (get_or rows j d) ≡ true → is_lower id (get_or rows i d) ≡ true
split_pair id [] i j d ordered le within is = absurd (omega arith)
split_pair id (r ∷ rs) zero zero d ordered le within is = is
split_pair id (r ∷ rs) zero (suc j) d ordered le within is =
    id_before_trans r.now.id (get_or rs j d).now.id id (later r.now.id rs j d ordered.0 (omega arith)) is
split_pair id (r ∷ rs) (suc i) zero d ordered le within is = absurd (omega arith)
split_pair id (r ∷ rs) (suc i) (suc j) d ordered le within is = split_pair id rs i j d ordered.1 (omega arith) (omega arith) is

-- of rows in order, those before an id are the first ones
pub parted : (id : RowId) (rows : List (Bor RowWrite)) → AreOrdered (map now rows) → IsPartitionedBy (is_lower id) rows
parted id rows ordered = λ i j d le within is. split_pair id rows i j d ordered le within is

-- and where they end is the first that does not come before it
pub first_is : (id : RowId) (rows : List (Bor RowWrite)) (k : ℕ) → k ≤ length rows
    → IsPartitionPoint (λ r. is_lower id r ≡ true) (λ r. is_lower id r ≡ false) rows k
    → position_or_len (λ r. not (is_lower id r)) rows ≡ k
first_is id [] k within point = omega arith
first_is id (r ∷ rs) k within point =
    position_or_len_is (λ s. not (is_lower id s)) (r ∷ rs) k r within
    (λ i low. ap not (point.0 i r (omega arith) (omega arith)))
    (λ low. ap not (point.1 k r (omega arith) (omega arith)))
