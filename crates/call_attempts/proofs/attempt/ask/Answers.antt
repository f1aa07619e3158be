use Rattle.call_attempts.specs.Attempt.{rows_at_begin}
use Rattle.call_attempts.proofs.attempt.ask.Goals as goal

pub returns-clause-may : goal.returns-clause-may
returns-clause-may g c =
    let parts = c.args.container.now.boot.start.deployment in
    let rows = rows_at_begin c.args.container.now.boot c.args.ticket.now.call in
    let some = g.met.P.Program.is_done c.args.program.now parts rows c.requires.accepts in
    rw c.in_ok-next.ensures (c.calls_follow.ensures.step parts (g.P.Program.asks c.args.program.now) rows c.args.answers.now c.args.ticket.now.call some c.requires.follows)
