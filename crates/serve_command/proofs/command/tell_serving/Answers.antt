use Rattle.std.proofs.Common.{subst}
use Rattle.service_log.specs.Logging.{log_of}
use Rattle.serve_command.specs.Opening.{TellsServing, serving_line}
use Rattle.serve_command.specs.Words.{ServeValue}
use Rattle.serve_command.proofs.Telling.{found_or_not}
use Rattle.serve_command.proofs.command.tell_serving.Goals as goal

pub returns : goal.returns
returns g c =
    let old = log_of (g.E.Sink.written c.args.errors.now) (g.E.Sink.faults c.args.errors.now) in
    let new = log_of (g.E.Sink.written c.write_found.new.errors) (g.E.Sink.faults c.write_found.new.errors) in
    let line = serving_line c.words.inside.file.now c.words.inside.port c.words.inside.workers in
    subst (λ (words : ServeValue). TellsServing words old new) c.words.view_is
    (found_or_not c.serving_line-line.result (λ line. line.items) line old new c.serving_line-line.ensures c.write_found.ensures.some c.write_found.ensures.none)
