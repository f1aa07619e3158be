use Rattle.std.proofs.Common.{Some, ap, ◌∙◌}
use Rattle.std.specs.BTreeMap.{insert_entry}
use Rattle.outside.specs.Places.{place_order, rows_at}
use Rattle.outside.proofs.Placing.{rows_at-filled}
use Rattle.outside.proofs.row_map.fill_place.Goals as goal

pub returns-clause-rows : goal.returns-clause-rows
returns-clause-rows c =
    let places = c.args.places.now.entries in
    let row = c.args.row in
    ap rows_at c.in-Ok.ensures.entries
    ∙ ap (λ place. rows_at (insert_entry place_order places place (Some row.bytes))) c.place_of_id.ensures
    ∙ rows_at-filled row places c.insert.ensures.was_ordered
