use Rattle.std.proofs.Common.{refl}
use Rattle.container_server.proofs.Telling.{told_one}
use Rattle.service_log.specs.Logging.{log_of}
use Rattle.service_log.specs.declared.event.ServiceEvent.TheVariants.{HumanNeeded}
use Rattle.container_server.proofs.deciding.call_human.Goals as goal

pub returns-clause-told : goal.returns-clause-told
returns-clause-told g c =
    let first = log_of (g.E.Sink.written c.args.desk.now.errors.now) (g.E.Sink.faults c.args.desk.now.errors.now) in
    let next = log_of (g.E.Sink.written c.log_event.new.errors) (g.E.Sink.faults c.log_event.new.errors) in
    told_one c.args.desk.now.deployment.now HumanNeeded first next c.requires.names refl c.log_event.ensures
