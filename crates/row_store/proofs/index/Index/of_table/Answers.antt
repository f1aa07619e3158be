use Rattle.std.proofs.Common.{◌≡◌, ◌∙◌, ◌+◌, ap, sym, subst, Some, rules}
use Rattle.std.specs.BTreeMap as tree
use Rattle.std.specs.BTreeMap.Range.{entries_between, IsLeBy, IsEntryInRange}
use Rattle.std.specs.Global.{Vec}
use Rattle.std.specs.declared.ops.Bound.TheVariants.{Included, Excluded}
use Rattle.std.proofs.lemmas.List.Elements.{All-weaker}
use Rattle.row_store.specs.declared.index.RowKey.{RowKey}
use Rattle.row_store.specs.declared.index.Spot.{Spot}
use Rattle.row_store.specs.Index.{ids, first_key}
use Rattle.row_store.proofs.KeyOrder.{forward}
use Rattle.row_store.proofs.index.Index.of_table.Goals as goal

pub range-requires : goal.range-requires
range-requires c =
    let first : c.first_key-first.result ≡ first_key c.args.table = search rules in
    let next : c.first_key-next.result ≡ first_key (c.args.table + 1) = search rules in
    let P : RowKey → Type 0 = λ k. IsLeBy ids k c.first_key-next.result in
    subst P (sym first) (subst (IsLeBy ids (first_key c.args.table)) (sym next) (forward c.args.table))

pub returns-clause-value : goal.returns-clause-value
returns-clause-value c =
    let first : c.first_key-first.result ≡ first_key c.args.table = search rules in
    let next : c.first_key-next.result ≡ first_key (c.args.table + 1) = search rules in
    c.range.ensures.between tt
    ∙ ap (λ k. entries_between ids (Included k) (Excluded c.first_key-next.result) c.args.self.now.rows.entries) first
    ∙ ap (λ k. entries_between ids (Included (first_key c.args.table)) (Excluded k) c.args.self.now.rows.entries) next

pub returns-clause-there : goal.returns-clause-there
returns-clause-there c =
    let m = c.args.self.now.rows in
    let lo = Included c.first_key-first.result in
    let hi = Excluded c.first_key-next.result in
    All-weaker (IsEntryInRange ids lo hi m) (λ (e : RowKey × Vec Spot). tree.get ids m e.0 ≡ Some e.1) (λ e within. within.1) c.range.result (c.range.ensures.in_range tt).0
