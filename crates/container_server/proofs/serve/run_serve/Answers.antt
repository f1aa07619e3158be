use Rattle.container_server.specs.Running.{seen, server_seen}
use Rattle.container_server.proofs.Running.{never_ran, reported}
use Rattle.service_log.specs.Logging.{log_of}
use Rattle.container_server.proofs.serve.run_serve.Goals as goal

pub returns-in-Err-clause-ran : goal.returns-in-Err-clause-ran
returns-in-Err-clause-ran g c =
    let told = c.report_end-end in
    let keeper = seen (g.K.Keeper.told c.args.keeper) (g.K.Keeper.faults c.args.keeper) in
    let first = log_of (g.E.Sink.written c.args.errors.now) (g.E.Sink.faults c.args.errors.now) in
    let last = log_of (g.E.Sink.written told.new.errors) (g.E.Sink.faults told.new.errors) in
    (told.result, c.status.ensures, never_ran (g.G.Gate.plans c.args.gate.now) told.result keeper first last told.ensures.end told.ensures.line)

pub returns-clause-ran : goal.returns-clause-ran
returns-clause-ran g c =
    let ended = c.serve_over-ended in
    let told = c.report_end-end-2 in
    let before = server_seen (seen (g.K.Keeper.told c.args.keeper) (g.K.Keeper.faults c.args.keeper)) (log_of (g.E.Sink.written c.args.errors.now) (g.E.Sink.faults c.args.errors.now)) in
    let after = seen (g.K.Keeper.told ended.result.keeper) (g.K.Keeper.faults ended.result.keeper) in
    let log = log_of (g.E.Sink.written ended.new.errors) (g.E.Sink.faults ended.new.errors) in
    let last = log_of (g.E.Sink.written told.new.errors) (g.E.Sink.faults told.new.errors) in
    (told.result, c.status-2.ensures, reported (g.G.Gate.plans c.args.gate.now) c.in-Ok.beginning.plans ended.result.end told.result before after log last ended.ensures.ran c.in-Ok.ensures.plans told.ensures.end told.ensures.line)
