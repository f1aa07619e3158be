use Rattle.std.proofs.Common.{◌≡◌, ◌∷◌, ◌∙◌, All, List, ap, sym, subst, rules}
use Rattle.std.proofs.lemmas.List.Elements.{All-head, All-tail, All-weaker}
use Rattle.crash_base.specs.declared.rows.RowWrite.{RowWrite}
use Rattle.crash_base.specs.Rows.{put_all}
use Rattle.outside.specs.Places.{place_of, rows_at, HasPlace}
use Rattle.outside.proofs.row_map.fill_places.Goals as goal

pub fill_place-requires : goal.fill_place-requires
fill_place-requires c =
    let later = c.next.new.self.rest.items in
    let next : c.loop-row.row-iterator.rest.items ≡ c.in-Some.row ∷ later = search rules in
    let P : List RowWrite → Type 0 = λ rows. All (HasPlace c.loop-row.places) rows in
    All-head (HasPlace c.loop-row.places) c.in-Some.row later (subst P next c.loop-row.invariant.made)

pub loop-row-preserved : goal.loop-row-preserved
loop-row-preserved c =
    let later = c.next.new.self.rest.items in
    let old = c.loop-row.places in
    let new = c.fill_place.new.places in
    let next : c.loop-row.row-iterator.rest.items ≡ c.in-Some.row ∷ later = search rules in
    let P : List RowWrite → Type 0 = λ rows. All (HasPlace old) rows in
    let made : All (HasPlace old) later = All-tail (HasPlace old) c.in-Some.row later (subst P next c.loop-row.invariant.made) in
    record {
      rows = ap (λ rows. put_all later rows) c.fill_place.ensures.rows ∙ ap (λ rows. put_all rows (rows_at old.entries)) (sym next) ∙ c.loop-row.invariant.rows;
      made = All-weaker (HasPlace old) (HasPlace new) (λ r had. c.fill_place.ensures.others (place_of r.id) had) later made;
    }
