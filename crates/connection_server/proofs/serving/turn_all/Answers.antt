use Rattle.connection_server.proofs.serving.turn_all.Goals as goal

pub returns-in-Some-turn_once-clause-ends : goal.returns-in-Some-turn_once-clause-ends
returns-in-Some-turn_once-clause-ends g c = c.in-Some-turn_once.ensures.comes c.args.link.now c.args.random.now c.loop.invariant.3

pub loop-preserved : goal.loop-preserved
loop-preserved g c = (tt, tt, c.in_default.ensures.seats, c.in_default.ensures.comes c.args.link.now c.args.random.now c.loop.invariant.3)
