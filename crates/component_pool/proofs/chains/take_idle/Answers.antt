use Rattle.std.proofs.Common.{refl, sym}
use Rattle.component_pool.proofs.Chained.{none_idle}
use Rattle.component_pool.proofs.Shown.{took, took_chained, first_there}
use Rattle.component_pool.proofs.chains.take_idle.Goals as goal

pub returns-in-None-clause-none : goal.returns-in-None-clause-none
returns-in-None-clause-none c = (none_idle c.args.slab.now.slots c.args.firsts.now c.args.c c.requires.own c.requires.chained c.in-None.is, refl)

pub returns-in-Some-get_mut-clause-taken : goal.returns-in-Some-get_mut-clause-taken
returns-in-Some-get_mut-clause-taken c =
    took c.args.slab.now c.args.firsts.now c.args.c c.in-Some.key c.in-Some-get_mut.linked.now c.taken.result c.requires.own c.requires.chained c.in-Some.is (sym c.in-Some-get_mut.ensures.value) c.taken.ensures

pub returns-in-Some-get_mut-clause-chained : goal.returns-in-Some-get_mut-clause-chained
returns-in-Some-get_mut-clause-chained c =
    took_chained c.args.slab.now c.args.firsts.now c.args.c c.in-Some.key c.in-Some-get_mut.linked.now c.taken.result c.requires.own c.requires.chained c.in-Some.is (sym c.in-Some-get_mut.ensures.value) c.taken.ensures

pub returns-in-None-get_mut-clause-none : goal.returns-in-None-get_mut-clause-none
returns-in-None-get_mut-clause-none c =
    absurd (first_there c.args.slab.now c.args.firsts.now c.args.c c.in-Some.key c.requires.own c.requires.chained c.in-Some.is (sym c.in-None-get_mut.ensures.value))
