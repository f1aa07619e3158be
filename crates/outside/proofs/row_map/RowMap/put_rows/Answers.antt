use Rattle.std.proofs.Common.{List, ap, sym, subst, ◌∙◌}
use Rattle.crash_base.specs.declared.rows.RowWrite.{RowWrite}
use Rattle.crash_base.specs.Rows.{put_all, AreOrdered}
use Rattle.crash_base.proofs.Ordering.{ordered-put_all}
use Rattle.outside.specs.Places.{rows_at}
use Rattle.outside.proofs.row_map.RowMap.put_rows.Goals as goal

pub invariant_of-self-2 : goal.invariant_of-self-2
invariant_of-self-2 c =
    let rows = c.args.rows.items in
    let old = rows_at c.self.inside.places.entries in
    let P : List RowWrite → Type 0 = λ new. AreOrdered new in
    subst P (sym (c.fill_places.ensures ∙ ap (λ before. put_all rows before) c.in_ok-make_places.ensures.rows)) (ordered-put_all rows old c.self.invariant)
