use Rattle.std.proofs.Common.{◌≡◌, ◌∙◌, All, take, get_or, subst, rules}
use Rattle.std.specs.BTreeMap.{ContainsKey}
use Rattle.std.proofs.lemmas.List.Elements.{All-more, All-weaker}
use Rattle.crash_base.specs.declared.rows.RowWrite.{RowWrite}
use Rattle.outside.specs.declared.row_map.Place.{Place}
use Rattle.outside.specs.Places.{place_order, place_of, HasPlace}
use Rattle.outside.proofs.row_map.make_places.Goals as goal

pub loop-row-preserved : goal.loop-row-preserved
loop-row-preserved c =
    let new = c.make_place.new.places in
    let rows = c.args.rows.now in
    let row = c.row-item.result in
    let at = c.loop-row.row-index in
    let P : Place → Type 0 = λ place. ContainsKey place_order new place in
    let here : HasPlace new row = subst P c.place_of_id.ensures c.in_ok-make_place.ensures.made in
    let earlier : All (HasPlace new) (take at rows) =
    All-weaker (HasPlace c.loop-row.places) (HasPlace new) (λ r had. c.in_ok-make_place.ensures.others (place_of r.id) had) (take at rows) c.loop-row.invariant.1 in
    let item : row ≡ get_or rows at row = search rules in
    let Q : RowWrite → Type 0 = λ r. HasPlace new r in
    (c.in_ok-make_place.ensures.rows ∙ c.loop-row.invariant.0, All-more (HasPlace new) rows at row (search rules) earlier (subst Q item here))
