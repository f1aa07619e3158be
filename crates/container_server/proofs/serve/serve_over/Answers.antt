use Rattle.std.proofs.Common.{IfSome, sym, subst}
use Rattle.container_server.specs.Running.{RanFrom, seen, server_seen}
use Rattle.container_server.proofs.Running.{first_refused, started_first, untold}
use Rattle.service_log.specs.Logging.{log_of}
use Rattle.container_server.proofs.serve.serve_over.Goals as goal

pub returns-in-Err-clause-ran : goal.returns-in-Err-clause-ran
returns-in-Err-clause-ran g c =
    let plans = c.args.beginning.plans in
    let fail = c.in-Err.fail in
    let same = c.unstarted.ensures in
    let old = seen (g.K.Keeper.told c.args.keeper) (g.K.Keeper.faults c.args.keeper) in
    let new = seen (g.K.Keeper.told fail.keeper) (g.K.Keeper.faults fail.keeper) in
    let log = log_of (g.E.Sink.written c.args.errors.now) (g.E.Sink.faults c.args.errors.now) in
    subst (λ k. RanFrom plans c.unstarted.result.end (server_seen old log) (server_seen (seen (g.K.Keeper.told k) (g.K.Keeper.faults k)) log)) (sym same.keeper)
    (first_refused plans fail.refusal c.unstarted.result.end old new log same.end c.in-Err.ensures.refused c.in-Err.ensures.failed)

pub returns-in-Err-clause-closed : goal.returns-in-Err-clause-closed
returns-in-Err-clause-closed g c = untold c.unstarted.result.closed c.unstarted.result.end c.in-Err.fail.refusal c.unstarted.ensures.closed c.unstarted.ensures.end

pub serve_boots-desk-requires-clause-started : goal.serve_boots-desk-requires-clause-started
serve_boots-desk-requires-clause-started g c κs within =
    let plans = c.args.beginning.plans in
    let old = seen (g.K.Keeper.told c.args.keeper) (g.K.Keeper.faults c.args.keeper) in
    let log = log_of (g.E.Sink.written c.args.errors.now) (g.E.Sink.faults c.args.errors.now) in
    (plans, server_seen old log, started_first plans old log c.in-Ok.container c.args.beginning.deployment c.limits.result c.requires.site.0 c.limits.ensures c.in-Ok.ensures.started)

pub returns-clause-ran : goal.returns-clause-ran
returns-clause-ran g c =
    let plans = c.args.beginning.plans in
    let old = seen (g.K.Keeper.told c.args.keeper) (g.K.Keeper.faults c.args.keeper) in
    let log = log_of (g.E.Sink.written c.args.errors.now) (g.E.Sink.faults c.args.errors.now) in
    let last = log_of (g.E.Sink.written c.serve_boots-desk.result.errors.now) (g.E.Sink.faults c.serve_boots-desk.result.errors.now) in
    let first = started_first plans old log c.in-Ok.container c.args.beginning.deployment c.limits.result c.requires.site.0 c.limits.ensures c.in-Ok.ensures.started in
    let ran = subst (λ o. IfSome o (λ ended. RanFrom plans ended.end (server_seen old log) (server_seen (seen (g.K.Keeper.told ended.keeper) (g.K.Keeper.faults ended.keeper)) last))) c.in-Some.is
    (c.serve_boots-desk.ensures.on plans (server_seen old log) first) in
    let new = seen (g.K.Keeper.told c.in-Some.ended.keeper) (g.K.Keeper.faults c.in-Some.ended.keeper) in
    subst (λ e. RanFrom plans c.in-Some.ended.end (server_seen old log) (server_seen new (log_of (g.E.Sink.written e) (g.E.Sink.faults e)))) (sym (c.errors-1.given.1 (sym c.serve_boots-desk.ensures.desk))) ran
