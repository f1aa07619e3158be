use Rattle.serve_command.proofs.Pieces.{after_first}
use Rattle.serve_command.proofs.ending.write_both.Goals as goal

pub returns-in-Ok-clause-told : goal.returns-in-Ok-clause-told
returns-in-Ok-clause-told g c = after_first (g.E.Sink.written c.args.errors.now) (g.E.Sink.written c.write_all.new.out) (g.E.Sink.written c.write_all-in-Ok.new.out)
    (g.E.Sink.faults c.args.errors.now) (g.E.Sink.faults c.write_all.new.out) (g.E.Sink.faults c.write_all-in-Ok.new.out)
    c.args.first.now c.args.second.now c.in-Ok.ensures.ok c.write_all.ensures.count c.write_all-in-Ok.ensures.whatever
