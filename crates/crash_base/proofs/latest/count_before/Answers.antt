use Rattle.std.proofs.Common.{rules, of_calls, sym}
use Rattle.std.proofs.lemmas.Fn.{always_returns_same}
use Rattle.crash_base.proofs.Halving.{is_lower, parted, first_is}
use Rattle.crash_base.proofs.latest.count_before.Goals as goal

pub returns-clause-value : goal.returns-clause-value
returns-clause-value c =
    let id = c.args.id in
    let rows = c.args.rows.now in
    let point = c.partition_point.ensures.partitioned (is_lower id) (always_returns_same _ _ _ (λ a r f k. search (rules, of_calls))) (parted id rows c.requires) in
    sym (first_is id rows c.partition_point.result c.partition_point.ensures.bound point)
