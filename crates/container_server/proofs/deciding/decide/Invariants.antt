use Rattle.std.proofs.Common.{◌≡◌}
use Rattle.container_server.specs.Seats.{AreOf, WereUsed}
use Rattle.container_server.specs.Telling.{HasTold}
use Rattle.service_log.specs.Logging.{log_of}
use Rattle.container_server.proofs.deciding.decide.Given as goal

abbrev pub invariant-loop : goal.invariant-loop
invariant-loop g l =
    (goal.iterator-loop g).can_next l.iterator' × (goal.iterator-loop g).is_finite l.iterator'
    × AreOf l.site l.seats × WereUsed l.fn.seats l.seats
    × (l.desk.errors.ghost_name ≡ l.fn.desk.errors.ghost_name) × (l.desk.deployment.now ≡ l.fn.desk.deployment.now)
    × HasTold (log_of (g.E.Sink.written l.fn.desk.errors.now) (g.E.Sink.faults l.fn.desk.errors.now))
    (log_of (g.E.Sink.written l.desk.errors.now) (g.E.Sink.faults l.desk.errors.now))
