use Rattle.std.proofs.Common.{[], ap, subst}
use Rattle.container_server.specs.Running.{RanOver, seen, server_seen}
use Rattle.outside.specs.Sink.{appended}
use Rattle.service_log.specs.Logging.{Log, log_of}
use Rattle.serve_command.specs.LastLine.{LastLineValue}
use Rattle.outside.proofs.Prefixes.{appended_none}
use Rattle.serve_command.proofs.command.run_to_end.Goals as goal

pub returns-clause-ran : goal.returns-clause-ran
returns-clause-ran g c =
    let ran = c.run_serve-status.ensures.ran in
    let sink = c.run_serve-status.new.errors in
    let written = g.E.Sink.written c.args.errors in
    let faults = g.E.Sink.faults c.args.errors in
    let keeper = seen (g.K.Keeper.told c.args.keeper) (g.K.Keeper.faults c.args.keeper) in
    let left = seen (g.K.Keeper.told c.run_serve-status.result.2) (g.K.Keeper.faults c.run_serve-status.result.2) in
    let after = server_seen left (log_of (appended sink.handed sink.kept) sink.faults) in
    let Over : Log → Type 0 = λ log. RanOver (g.G.Gate.plans c.args.gate.now) ran.0 (server_seen keeper log) after in
    let new : LastLineValue = record { handed = written; kept = []; faults = faults } in
    let Of : LastLineValue → Type 0 = λ s. Over (log_of (appended s.handed s.kept) s.faults) in
    record {
      end = ran.0;
      status_is = ran.1;
      sink = sink;
      ran = subst Over (ap (λ w. log_of w faults) (appended_none written)) (subst Of {y = new} c.new-last_line.ensures ran.2);
      reason = c.as_slice.result.now;
      told = c.end-errors.ensures.told;
      count = c.end-errors.ensures.count;
    }
