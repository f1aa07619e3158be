-- Rows at the places of a map, when a place is made or a row is put at one.
use Rattle.std.proofs.Common.{◌≡◌, ℕ, true, false, cond, List, [], ◌∷◌, Option, Some, None, All, refl, sym, ap, ◌∙◌, subst}
use Rattle.std.specs.declared.cmp.Ordering.{Ordering}
use Rattle.std.specs.declared.cmp.Ordering.TheVariants.{Less, Equal, Greater}
use Rattle.std.specs.Ordering.{is_eq, match_ordering}
use Rattle.std.specs.List.{cons_option, AllByRecursion}
use Rattle.std.specs.List.Sorted.{IsStrictlySortedBy}
use Rattle.std.specs.Map.{lookup, keys_of}
use Rattle.std.specs.BTreeMap.{insert_entry, is_at}
use Rattle.std.proofs.lemmas.List.Elements.{All-nil, All-cons, All-head, All-weaker}
use Rattle.std.proofs.lemmas.Map.Keys.{sorted_head, sorted_tail}
use Rattle.crash_base.specs.declared.row_id.RowId.{RowId}
use Rattle.crash_base.specs.declared.rows.RowWrite.{RowWrite}
use Rattle.crash_base.specs.RowId.{same_id, id_before}
use Rattle.crash_base.specs.Rows.{put}
use Rattle.crash_base.proofs.IdOrder.{same_id-self, id_before_trans, id_before_other'}
use Rattle.outside.specs.declared.row_map.Place.{Place}
use Rattle.outside.specs.Places.{place_order, place_of, row_at, rows_at}
use Rattle.outside.proofs.PlaceOrder.{place_less, place_equal, place_greater, not_before_itself, not_before_back}

abbrev Entry : Type 0
Entry = Place × Option (List ℕ)

-- the id of a place
abbrev id_of : Place → RowId
id_of p = record { table = p.table; key = p.key }

-- the row comes after this id
abbrev IsAfter : RowId → RowWrite → Type 0
IsAfter id r = id_before id r.id ≡ true

made_step : (k : Place) (e : Entry) (es : List Entry) (o : Ordering) → cond (is_eq o) (Some e.1) (lookup (is_at (place_order k)) es) ≡ None
    → (lookup (is_at (place_order k)) es ≡ None → rows_at (insert_entry place_order es k None) ≡ rows_at es)
    → rows_at (match_ordering o ((k, None) ∷ e ∷ es) ((e.0, None) ∷ es) (e ∷ insert_entry place_order es k None)) ≡ rows_at (e ∷ es)
made_step k e es Less absent later = refl
made_step k e es Equal absent later = cc
made_step k e es Greater absent later = ap (λ rows. cons_option (row_at e) rows) (later absent)

-- a place that is made has no row
pub rows_at-made : (k : Place) (es : List Entry) → lookup (is_at (place_order k)) es ≡ None → rows_at (insert_entry place_order es k None) ≡ rows_at es
rows_at-made k [] absent = refl
rows_at-made k (e ∷ es) absent = made_step k e es (place_order k e.0) absent (rows_at-made k es)

-- rows whose places come after a place come after its id
rows_after : (p : Place) (es : List Entry) → AllByRecursion (λ q. place_order p q ≡ Less) (keys_of es) → All (IsAfter (id_of p)) (rows_at es)
rows_after p [] after = All-nil (IsAfter (id_of p))
rows_after p ((q, None) ∷ es) after = rows_after p es after.1
rows_after p ((q, Some bytes) ∷ es) after =
    All-cons (IsAfter (id_of p)) (record { id = id_of q; bytes = bytes }) (rows_at es) (place_less (id_of p) (id_of q) after.0) (rows_after p es after.1)

-- a row that comes before all others is put first
put_before : (w : RowWrite) (rows : List RowWrite) → All (IsAfter w.id) rows → put w rows ≡ w ∷ rows
put_before w [] after = refl
put_before w (r ∷ rs) after =
    let first : id_before w.id r.id ≡ true = All-head (IsAfter w.id) r rs after in
    let not_before : id_before r.id w.id ≡ false = not_before_back w.id r.id first in
    let other : same_id r.id w.id ≡ false = id_before_other' w.id r.id first in
    rw (not_before, other) refl

-- a row before the id of a place comes before the rows after that place
after_both : (w : RowWrite) (p : Place) (rows : List RowWrite) → id_before w.id (id_of p) ≡ true → All (IsAfter (id_of p)) rows → All (IsAfter w.id) rows
after_both w p rows before after = All-weaker (IsAfter (id_of p)) (IsAfter w.id) (λ s later. id_before_trans w.id (id_of p) s.id before later) rows after

put_new : (w : RowWrite) (p : Place) (bytes : Option (List ℕ)) (es : List Entry) → id_before w.id (id_of p) ≡ true → All (IsAfter (id_of p)) (rows_at es)
    → put w (rows_at ((p, bytes) ∷ es)) ≡ w ∷ rows_at ((p, bytes) ∷ es)
put_new w p None es before after = put_before w (rows_at es) (after_both w p (rows_at es) before after)
put_new w p (Some bytes) es before after =
    let r : RowWrite = record { id = id_of p; bytes = bytes } in
    put_before w (r ∷ rows_at es) (All-cons (IsAfter w.id) r (rows_at es) before (after_both w p (rows_at es) before after))

put_same : (w : RowWrite) (p : Place) (bytes : Option (List ℕ)) (es : List Entry) → w.id ≡ id_of p → All (IsAfter (id_of p)) (rows_at es)
    → put w (rows_at ((p, bytes) ∷ es)) ≡ w ∷ rows_at es
put_same w p None es same after =
    let P : RowId → Type 0 = λ id. All (IsAfter id) (rows_at es) in
    put_before w (rows_at es) (subst P (sym same) after)
put_same w p (Some bytes) es same after =
    let P : RowId → Type 0 = λ id. put w (record { id = id; bytes = bytes } ∷ rows_at es) ≡ w ∷ rows_at es in
    let here : P w.id = rw (not_before_itself w.id, same_id-self w.id) refl in
    subst P same here

put_later : (w : RowWrite) (p : Place) (bytes : Option (List ℕ)) (es fs : List Entry) → id_before (id_of p) w.id ≡ true → rows_at fs ≡ put w (rows_at es)
    → rows_at ((p, bytes) ∷ fs) ≡ put w (rows_at ((p, bytes) ∷ es))
put_later w p None es fs before later = later
put_later w p (Some bytes) es fs before later = rw before (ap (λ rows. record { id = id_of p; bytes = bytes } ∷ rows) later)

filled_step : (w : RowWrite) (p : Place) (bytes : Option (List ℕ)) (es : List Entry) (o : Ordering) → place_order (place_of w.id) p ≡ o → All (IsAfter (id_of p)) (rows_at es)
    → rows_at (insert_entry place_order es (place_of w.id) (Some w.bytes)) ≡ put w (rows_at es)
    → rows_at (match_ordering o ((place_of w.id, Some w.bytes) ∷ (p, bytes) ∷ es) ((p, Some w.bytes) ∷ es) ((p, bytes) ∷ insert_entry place_order es (place_of w.id) (Some w.bytes))) ≡ put w (rows_at ((p, bytes) ∷ es))
filled_step w p bytes es Less order after later = sym (put_new w p bytes es (place_less w.id (id_of p) order) after)
filled_step w p bytes es Equal order after later =
    let same : w.id ≡ id_of p = place_equal w.id (id_of p) order in
    ap (λ id. record { id = id; bytes = w.bytes } ∷ rows_at es) (sym same) ∙ sym (put_same w p bytes es same after)
filled_step w p bytes es Greater order after later = put_later w p bytes es (insert_entry place_order es (place_of w.id) (Some w.bytes)) (place_greater w.id (id_of p) order) later

-- a row put at its place is put among the rows
pub rows_at-filled : (w : RowWrite) (es : List Entry) → IsStrictlySortedBy place_order (keys_of es) → rows_at (insert_entry place_order es (place_of w.id) (Some w.bytes)) ≡ put w (rows_at es)
rows_at-filled w [] sorted = refl
rows_at-filled w ((p, bytes) ∷ es) sorted =
    let after : All (IsAfter (id_of p)) (rows_at es) = rows_after p es (sorted_head place_order p (keys_of es) sorted) in
    filled_step w p bytes es (place_order (place_of w.id) p) refl after (rows_at-filled w es (sorted_tail place_order p (keys_of es) sorted))
