-- What a keeper holds once the number of a boot is put over its rows.
use Rattle.std.proofs.Common.{◌≡◌, ℕ, Bool, true, false, if◌then◌else◌, List, [], ◌∷◌, ◌++◌, Option, Some, None, All, refl, sym, ap, ◌∙◌, subst}
use Rattle.std.proofs.lemmas.List.{append-nil}
use Rattle.std.proofs.lemmas.List.Elements.{All-head, All-tail, All-weaker}
use Rattle.crash_base.specs.declared.row_id.RowId.{RowId}
use Rattle.crash_base.specs.declared.rows.RowWrite.{RowWrite}
use Rattle.crash_base.specs.RowId.{same_id, id_before}
use Rattle.crash_base.specs.Rows.{put_all, AreOrdered, row_in, last_write}
use Rattle.crash_base.proofs.IdOrder.{same_id-true, id_before_other'}
use Rattle.crash_base.proofs.Ordering.{ordered-put_all, row_in-put_all, put_all-append, same_from_row_in}
use Rattle.journal_model.specs.Rows.{rows_after}
use Rattle.container_core.specs.Start.{boot_row}

-- the row is of another id
abbrev IsOther : RowId → RowWrite → Type 0
IsOther id r = same_id r.id id ≡ false

-- writes of other ids leave what was given
last_write-other : (given : Option (List ℕ)) (rows : List RowWrite) (id : RowId) → All (IsOther id) rows → last_write given rows id ≡ given
last_write-other given [] id other = refl
last_write-other given (r ∷ rs) id other =
    rw (All-head (IsOther id) r rs other) (last_write-other given rs id (All-tail (IsOther id) r rs other))

last_write-step : (r : RowWrite) (rs : List RowWrite) (id : RowId) (same : Bool) → same_id r.id id ≡ same → AreOrdered (r ∷ rs)
    → last_write None rs id ≡ row_in rs id
    → last_write (if same then Some r.bytes else None) rs id ≡ (if same then Some r.bytes else row_in rs id)
last_write-step r rs id true same ordered later =
    let P : RowId → Type 0 = λ a. All (IsOther a) rs in
    let other : All (IsOther r.id) rs = All-weaker (λ s. id_before r.id s.id ≡ true) (IsOther r.id) (λ s after. id_before_other' r.id s.id after) rs ordered.0 in
    last_write-other (Some r.bytes) rs id (subst P (same_id-true r.id id same) other)
last_write-step r rs id false other ordered later = later

-- of rows in order, the last write of an id is its row
last_write-ordered : (rows : List RowWrite) (id : RowId) → AreOrdered rows → last_write None rows id ≡ row_in rows id
last_write-ordered [] id ordered = refl
last_write-ordered (r ∷ rs) id ordered = last_write-step r rs id (same_id r.id id) refl ordered (last_write-ordered rs id ordered.1)

-- rows in order that are put one after the other are as they were
pub put_all-ordered : (rows : List RowWrite) → AreOrdered rows → put_all rows [] ≡ rows
put_all-ordered rows ordered =
    same_from_row_in (put_all rows []) rows (ordered-put_all rows [] tt) ordered
    (λ id. row_in-put_all rows [] id ∙ last_write-ordered rows id ordered)

-- a keeper of rows in order that took the number of a boot holds what that boot begins with
pub start_rows : (rows : List RowWrite) (n : ℕ) → AreOrdered rows → put_all (boot_row n ∷ []) rows ≡ rows_after (rows ++ boot_row n ∷ []) []
start_rows rows n ordered =
    let row : List RowWrite = boot_row n ∷ [] in
    let none : (rows ++ row) ++ [] ≡ rows ++ row = append-nil (rows ++ row) in
    ap (put_all row) (sym (put_all-ordered rows ordered)) ∙ sym (put_all-append rows row []) ∙ ap (λ ws. put_all ws []) (sym none)
