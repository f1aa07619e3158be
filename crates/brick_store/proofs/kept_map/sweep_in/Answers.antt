use Rattle.std.proofs.Common.{sym, subst, ◌∙◌, arith}
use Rattle.brick_store.specs.Tied.{AreTied}
use Rattle.lease_wheel.specs.Wheels.{AreInOrder}
use Rattle.brick_store.proofs.Leases.{sweep_empty, sweep_none, none_late}
use Rattle.brick_store.proofs.Sweeping.{item_there, sweep_step}
use Rattle.brick_store.proofs.kept_map.sweep_in.Goals as goal

pub returns-then-len-eq0-clause-left : goal.returns-then-len-eq0-clause-left
returns-then-len-eq0-clause-left c = sweep_empty c.args.moment c.args.leases.now.entries (sym c.len.ensures.len ∙ c.if-len-eq0.true)

-- what the wheel gave out is the item of a lease
pub take_out-left-requires : goal.take_out-left-requires
take_out-left-requires c =
    let f = c.in-Some.ensures.item in
    let tied = subst (AreTied c.loop-item.leases.entries) f.1 c.loop-item.invariant.tied in
    let ordered = subst AreInOrder f.1 c.in-Some.ensures.ordered in
    item_there c.args.moment c.loop-item.leases.entries c.loop-item.leases.entries f.0 c.pop_due.new.self c.in-Some.item tied ordered f.2

pub overflow_sub-left : goal.overflow_sub-left
overflow_sub-left c =
    let f = c.in-Some.ensures.item in
    let es = c.loop-item.leases.entries in
    let fs = c.take_out-left.new.leases.entries in
    let tied = subst (AreTied es) f.1 c.loop-item.invariant.tied in
    let ordered = subst AreInOrder f.1 c.in-Some.ensures.ordered in
    let step = sweep_step c.args.moment es fs f.0 c.pop_due.new.self c.in-Some.item tied ordered f.2 f.3 c.take_out-left.result c.take_out-left.ensures.size c.take_out-left.ensures.entries c.take_out-left.ensures.others in
    omega (arith, c.loop-item.invariant.bytes, step.1)

pub loop-item-preserved : goal.loop-item-preserved
loop-item-preserved c =
    let f = c.in-Some.ensures.item in
    let es = c.loop-item.leases.entries in
    let fs = c.take_out-left.new.leases.entries in
    let tied = subst (AreTied es) f.1 c.loop-item.invariant.tied in
    let ordered = subst AreInOrder f.1 c.in-Some.ensures.ordered in
    let step = sweep_step c.args.moment es fs f.0 c.pop_due.new.self c.in-Some.item tied ordered f.2 f.3 c.take_out-left.result c.take_out-left.ensures.size c.take_out-left.ensures.entries c.take_out-left.ensures.others in
    record {
      tied = step.0;
      ordered = c.take_out-left.ensures.ordered;
      bytes = omega (arith, c.loop-item.invariant.bytes, step.1);
      same = step.2 ∙ c.loop-item.invariant.same;
    }

-- nothing is due any more, so a sweep leaves what is there
pub returns-clause-left : goal.returns-clause-left
returns-clause-left c =
    let es = c.loop-item.leases.entries in
    let none = none_late c.args.moment es c.loop-item.wheel c.loop-item.invariant.ordered c.loop-item.invariant.tied c.in_default.ensures.item.0 in
    sym (sweep_none c.args.moment es none) ∙ c.loop-item.invariant.same
