use Rattle.std.proofs.Common.{◌∙◌}
use Rattle.container_server.proofs.Telling.{told_twice}
use Rattle.container_server.proofs.Using.{used_twice}
use Rattle.service_log.specs.Logging.{log_of}
use Rattle.container_server.proofs.deciding.decide.Goals as goal

pub decide_once-requires-clause-names : goal.decide_once-requires-clause-names
decide_once-requires-clause-names g c κs within = c.loop.invariant.5 ∙ c.requires.names

pub loop-preserved : goal.loop-preserved
loop-preserved g c =
    let was = c.loop.invariant in
    let did = c.decide_once.ensures in
    let first = log_of (g.E.Sink.written c.args.desk.now.errors.now) (g.E.Sink.faults c.args.desk.now.errors.now) in
    let here = log_of (g.E.Sink.written c.loop.desk.errors.now) (g.E.Sink.faults c.loop.desk.errors.now) in
    let next = log_of (g.E.Sink.written c.decide_once.new.desk.errors.now) (g.E.Sink.faults c.decide_once.new.desk.errors.now) in
    (tt, tt, did.seats, used_twice c.args.seats.now c.loop.seats c.decide_once.new.seats was.3 did.used, did.desk ∙ was.4, did.names ∙ was.5, told_twice first here next was.6 did.told)
