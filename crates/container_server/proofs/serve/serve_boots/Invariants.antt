use Rattle.std.proofs.Common.{◌≡◌, List}
use Rattle.auction_rows.specs.Parts.{site_parts}
use Rattle.container_server.specs.Running.{HasStarted, ServerSeen}
use Rattle.crash_base.specs.declared.fault_plans.FaultPlan.{FaultPlan}
use Rattle.service_log.specs.Logging.{log_of}
use Rattle.container_server.proofs.serve.serve_boots.Given as goal

abbrev pub invariant-loop : goal.invariant-loop
invariant-loop g l =
    let first = log_of (g.E.Sink.written l.fn.desk.errors.now) (g.E.Sink.faults l.fn.desk.errors.now) in
    let here = log_of (g.E.Sink.written l.desk.errors.now) (g.E.Sink.faults l.desk.errors.now) in
    (goal.iterator-loop g).can_next l.iterator' × (goal.iterator-loop g).is_finite l.iterator'
    × ((plans : List FaultPlan) (before : ServerSeen) → HasStarted plans before l.fn.container first → HasStarted plans before l.container here)
    × ((plans : List FaultPlan) × (before : ServerSeen) × HasStarted plans before l.container here)
    × (l.desk.errors.ghost_name ≡ l.fn.desk.errors.ghost_name) × (l.desk.deployment.now ≡ site_parts)
