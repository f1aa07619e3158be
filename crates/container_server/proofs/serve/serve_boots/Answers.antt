use Rattle.std.proofs.Common.{◌∙◌, List, MatchResult, subst}
use Rattle.container_server.specs.Running.{HasStarted, RanFrom, ServerSeen, seen, server_seen}
use Rattle.crash_base.specs.declared.fault_plans.FaultPlan.{FaultPlan}
use Rattle.service_log.specs.Logging.{log_of}
use Rattle.container_server.proofs.serve.serve_boots.Goals as goal

pub loop-preserved : goal.loop-preserved
loop-preserved g c =
    let was = c.loop.invariant in
    let did = c.serve_once-served.ensures in
    let here = log_of (g.E.Sink.written c.loop.desk.errors.now) (g.E.Sink.faults c.loop.desk.errors.now) in
    let next = log_of (g.E.Sink.written c.serve_once-served.result.1.errors.now) (g.E.Sink.faults c.serve_once-served.result.1.errors.now) in
    let on : (plans : List FaultPlan) (before : ServerSeen) → HasStarted plans before c.loop.container here → HasStarted plans before c.in-Ok.again next = λ plans before h.
    subst (λ r. MatchResult r (λ again. HasStarted plans before again.0 next) (λ ended. RanFrom plans ended.end before (server_seen (seen (g.K.Keeper.told ended.keeper) (g.K.Keeper.faults ended.keeper)) next))) c.in-Ok.is (did.on plans before h) in
    (tt, tt, (λ plans before s. on plans before (was.2 plans before s)), (was.3.0, was.3.1, on was.3.0 was.3.1 was.3.2), did.desk ∙ was.4, did.names ∙ was.5)

pub returns-in-Err-clause-on : goal.returns-in-Err-clause-on
returns-in-Err-clause-on g c plans before s =
    let next = log_of (g.E.Sink.written c.serve_once-served.result.1.errors.now) (g.E.Sink.faults c.serve_once-served.result.1.errors.now) in
    subst (λ r. MatchResult r (λ again. HasStarted plans before again.0 next) (λ ended. RanFrom plans ended.end before (server_seen (seen (g.K.Keeper.told ended.keeper) (g.K.Keeper.faults ended.keeper)) next))) c.in-Err.is
    (c.serve_once-served.ensures.on plans before (c.loop.invariant.2 plans before s))
