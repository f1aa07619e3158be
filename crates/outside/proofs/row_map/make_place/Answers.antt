use Rattle.std.proofs.Common.{◌≡◌, None, ap, ◌∙◌, rules}
use Rattle.std.specs.BTreeMap.{get}
use Rattle.outside.specs.Places.{place_order, rows_at}
use Rattle.outside.proofs.Placing.{rows_at-made}
use Rattle.outside.proofs.row_map.make_place.Goals as goal

pub returns-clause-rows : goal.returns-clause-rows
returns-clause-rows c =
    let absent : get place_order c.args.places.now c.args.place ≡ None = search rules in
    ap rows_at c.in_ok-insert.ensures.entries ∙ rows_at-made c.args.place c.args.places.now.entries absent
