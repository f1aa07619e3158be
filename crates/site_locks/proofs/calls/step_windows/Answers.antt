use Rattle.std.proofs.Common.{arith}
use Rattle.site_locks.proofs.calls.step_windows.Goals as goal

pub returns-in-Ok-clause-goes : goal.returns-in-Ok-clause-goes
returns-in-Ok-clause-goes g c = λ container goes.
    let limits = c.facts.ensures.limits in
    c.connections_go_on.ensures.windows container c.args.shepherd.now c.step_windows.new.self c.args.windows.now c.step_windows.new.windows
    limits.some (omega (arith, limits.enough, limits.within, limits.few)) c.in-Ok.ensures.step goes
