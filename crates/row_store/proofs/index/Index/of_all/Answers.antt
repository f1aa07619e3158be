use Rattle.std.proofs.Common.{◌≡◌, Some}
use Rattle.std.specs.BTreeMap as tree
use Rattle.std.specs.BTreeMap.Range.{IsEntryInRange}
use Rattle.std.specs.Global.{Vec}
use Rattle.std.specs.declared.ops.Bound.TheVariants.{Unbounded}
use Rattle.std.proofs.lemmas.List.Elements.{All-weaker}
use Rattle.row_store.specs.declared.index.RowKey.{RowKey}
use Rattle.row_store.specs.declared.index.Spot.{Spot}
use Rattle.row_store.specs.Index.{ids}
use Rattle.row_store.proofs.index.Index.of_all.Goals as goal

pub returns-clause-value : goal.returns-clause-value
returns-clause-value c = c.range.ensures.between tt

pub returns-clause-there : goal.returns-clause-there
returns-clause-there c =
    let m = c.args.self.now.rows in
    All-weaker (IsEntryInRange ids Unbounded Unbounded m) (λ (e : RowKey × Vec Spot). tree.get ids m e.0 ≡ Some e.1) (λ e within. within.1) c.range.result (c.range.ensures.in_range tt).0
