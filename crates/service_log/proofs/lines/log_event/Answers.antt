use Rattle.service_log.specs.Logging.{log_of}
use Rattle.service_log.proofs.Logging.{logged}
use Rattle.service_log.proofs.lines.log_event.Goals as goal

pub returns : goal.returns
returns g c =
    let old = log_of (g.E.Sink.written c.args.errors.now) (g.E.Sink.faults c.args.errors.now) in
    let new = log_of (g.E.Sink.written c.write_found.new.errors) (g.E.Sink.faults c.write_found.new.errors) in
    logged (λ line. line.items) c.args.deployment.now c.args.event c.line_of-line.result old new c.line_of-line.ensures c.write_found.ensures.some c.write_found.ensures.none
