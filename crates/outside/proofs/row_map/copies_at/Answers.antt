use Rattle.std.proofs.Common.{◌≡◌, [], ◌∷◌, ◌++◌, Some, ap, sym, ◌∙◌, append_assoc, rules}
use Rattle.std.specs.List.{cons_option}
use Rattle.crash_base.specs.declared.rows.RowWrite.{RowWrite}
use Rattle.outside.specs.Places.{row_at, rows_at}
use Rattle.outside.proofs.row_map.copies_at.Goals as goal

pub loop-place-preserved-in_ok-push : goal.loop-place-preserved-in_ok-push
loop-place-preserved-in_ok-push c =
    let copies = c.loop-place.copies.items in
    let later = c.next.new.self in
    let next : c.loop-place.place-iterator ≡ (c.in-Some.place.now, c.in-Some.bytes.now) ∷ later = search rules in
    let row : RowWrite = record { id = c.id_at.result; bytes = c.in_ok-copied.field-0 } in
    let bytes : c.in-Some.bytes.now ≡ Some c.in_ok-copied.field-0 = search rules in
    let here : row_at (c.in-Some.place.now, c.in-Some.bytes.now) ≡ Some row =
    ap (λ bs. row_at (c.in-Some.place.now, bs)) bytes ∙ ap (λ place. row_at (place, Some row.bytes)) c.id_at.ensures in
    rw c.in_ok-push.ensures.items
    (append_assoc copies (row ∷ []) (rows_at later)
    ∙ ap (λ rows. copies ++ rows) (ap (λ r. cons_option r (rows_at later)) (sym here) ∙ ap rows_at (sym next))
    ∙ c.loop-place.invariant)
