use Rattle.std.proofs.Common.{sym, ◌∙◌}
use Rattle.container_core.proofs.GoodRows.{new_in_order, bad_here, bad_past}
use Rattle.container_core.proofs.judging.first_bad.Goals as goal

pub is_bad-requires : goal.is_bad-requires
is_bad-requires c = λ in_order.
    new_in_order c.args.rows.now c.loop-i.i c.index-rows-i.result c.loop-i-test.true c.index-rows-i.is (c.are_in_order-in_order.ensures in_order)

pub returns-then-is_bad : goal.returns-then-is_bad
returns-then-is_bad c =
    sym (bad_here c.args.rows.now c.loop-i.i c.index-rows-i.result c.loop-i-test.true c.index-rows-i.is (sym c.is_bad.ensures ∙ c.if-is_bad.true)) ∙ c.loop-i.invariant

pub loop-i-preserved : goal.loop-i-preserved
loop-i-preserved c =
    sym (bad_past c.args.rows.now c.loop-i.i c.index-rows-i.result c.loop-i-test.true c.index-rows-i.is (sym c.is_bad.ensures ∙ c.if-is_bad.false)) ∙ c.loop-i.invariant
