use Rattle.std.proofs.Common.{◌≡◌, ◌∷◌, ◌∙◌, ap, sym, subst}
use Rattle.std.specs.Global.{Vec}
use Rattle.std.specs.Map.Iter.{deref_pair}
use Rattle.std.specs.Option.{option_to_list}
use Rattle.std.proofs.lemmas.List.Elements.{All-head, All-tail}
use Rattle.std.proofs.lemmas.Map.Iter.{rest_more}
use Rattle.crash_base.specs.Rows.{put_all}
use Rattle.crash_base.proofs.Ordering.{put_all-append}
use Rattle.row_store.specs.declared.index.RowKey.{RowKey}
use Rattle.row_store.specs.declared.index.Spot.{Spot}
use Rattle.row_store.specs.Index.{EachRises, RiseFrom, rows_seen, write_seen}
use Rattle.row_store.proofs.scans.put_each.Goals as goal

pub put_seen-requires : goal.put_seen-requires
put_seen-requires c =
    let all = c.loop-entry.entry-iterator in
    let left = c.next.new.self in
    let e = deref_pair c.in-Some.entry in
    let steps : all ≡ e ∷ left = rest_more deref_pair all left c.next.result c.in-Some.entry c.in-Some.is c.next.ensures.steps in
    subst (RiseFrom 0) (sym c.as_slice.ensures.value) (All-head (λ (e : RowKey × Vec Spot). RiseFrom 0 e.1.items) e left (subst EachRises steps c.loop-entry.invariant.rise))

pub loop-entry-preserved : goal.loop-entry-preserved
loop-entry-preserved c =
    let all = c.loop-entry.entry-iterator in
    let left = c.next.new.self in
    let e = deref_pair c.in-Some.entry in
    let base = c.args.base.now in
    let noted = c.args.noted.now in
    let at = c.args.at.0 in
    let rows = c.loop-entry.rows in
    let steps : all ≡ e ∷ left = rest_more deref_pair all left c.next.result c.in-Some.entry c.in-Some.is c.next.ensures.steps in
    let put : c.put_seen.new.rows ≡ put_all (option_to_list (write_seen base noted at e.1.items)) rows = c.in_ok-put_seen.ensures ∙ ap (λ spots. put_all (option_to_list (write_seen base noted at spots)) rows) c.as_slice.ensures.value in
    record {
      rise = All-tail (λ (e : RowKey × Vec Spot). RiseFrom 0 e.1.items) e left (subst EachRises steps c.loop-entry.invariant.rise);
      listed =
          ap (λ new. put_all (rows_seen base noted at left) new) put
          ∙ sym (put_all-append (option_to_list (write_seen base noted at e.1.items)) (rows_seen base noted at left) rows)
          ∙ ap (λ es. put_all (rows_seen base noted at es) rows) (sym steps)
          ∙ c.loop-entry.invariant.listed;
    }
