use Rattle.component_pool.proofs.Shown.{put_chained}
use Rattle.component_pool.proofs.chains.put_back.Goals as goal

pub returns-in-Some-clause-chained : goal.returns-in-Some-clause-chained
returns-in-Some-clause-chained c =
    put_chained c.args.slab.now c.args.firsts.now c.args.key c.args.instance c.idle.result c.requires.own c.requires.found c.requires.taken c.requires.chained c.idle.ensures
