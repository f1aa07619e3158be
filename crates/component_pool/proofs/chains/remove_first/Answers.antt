use Rattle.std.proofs.Common.{refl, sym}
use Rattle.component_pool.proofs.Chained.{none_idle}
use Rattle.component_pool.proofs.Shown.{removed_first, first_there}
use Rattle.component_pool.proofs.chains.remove_first.Goals as goal

pub returns-in-None-clause-none : goal.returns-in-None-clause-none
returns-in-None-clause-none c = (none_idle c.args.slab.now.slots c.args.firsts.now c.args.c c.requires.own c.requires.chained c.in-None.is, refl)

pub returns-in-Some-try_remove-clause-removed : goal.returns-in-Some-try_remove-clause-removed
returns-in-Some-try_remove-clause-removed c =
    (removed_first c.args.slab.now c.try_remove.new.self c.args.firsts.now c.args.c c.in-Some.key c.in-Some-try_remove.linked c.requires.own c.requires.chained c.in-Some.is (sym c.in-Some-try_remove.ensures.value) c.in-Some-try_remove.ensures.updates).0

pub returns-in-Some-try_remove-clause-chained : goal.returns-in-Some-try_remove-clause-chained
returns-in-Some-try_remove-clause-chained c =
    (removed_first c.args.slab.now c.try_remove.new.self c.args.firsts.now c.args.c c.in-Some.key c.in-Some-try_remove.linked c.requires.own c.requires.chained c.in-Some.is (sym c.in-Some-try_remove.ensures.value) c.in-Some-try_remove.ensures.updates).1

pub returns-in-None-try_remove-clause-none : goal.returns-in-None-try_remove-clause-none
returns-in-None-try_remove-clause-none c =
    absurd (first_there c.args.slab.now c.args.firsts.now c.args.c c.in-Some.key c.requires.own c.requires.chained c.in-Some.is (sym c.in-None-try_remove.ensures.value))
