use Rattle.site_locks.proofs.calls.step_inside.Goals as goal

pub returns-in-Ok-clause-goes : goal.returns-in-Ok-clause-goes
returns-in-Ok-clause-goes g c =
    c.connections_go_on.ensures.inside c.args.shepherd.now c.step_inside.new.self c.args.container.now c.step_inside.new.container c.in-Ok.ensures.step c.step_inside.ensures.grown c.requires.goes
