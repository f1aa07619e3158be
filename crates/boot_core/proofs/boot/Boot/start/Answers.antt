use Rattle.std.proofs.Common.{ap}
use Rattle.row_store.specs.Rows.{RowsValue}
use Rattle.boot_core.proofs.Kept.{kept_start}
use Rattle.boot_core.proofs.boot.Boot.start.Goals as goal

pub invariant_of-result : goal.invariant_of-result
invariant_of-result c =
    kept_start c.args.start.boot c.args.start.base c.args.start.deployment c.args.start.plans c.new-4.result.limits c.new-4.result.entries c.in_ok-names.names c.in_ok-rows.rows c.new-pool.result
    c.new-4.ensures.entries (ap (λ (r : RowsValue). r.base) c.in_ok-rows.ensures.value) c.requires c.in_ok-names.ensures.follows c.in_ok-rows.ensures.journal c.new-pool.ensures.stands
