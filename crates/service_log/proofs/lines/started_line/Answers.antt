use Rattle.std.proofs.Common.{codes}
use Rattle.service_log.proofs.Logging.{joined}
use Rattle.service_log.proofs.lines.started_line.Goals as goal

pub returns : goal.returns
returns c = joined c.new-line.result.items (codes "boot ") (codes " started over ") (codes " rows\n") c.add_number.new.line.items c.add_number-2.new.line.items c.args.boot c.from.result c.args.rows c.new-line.ensures.items c.from.ensures c.in_ok-add_number.ensures c.in_ok-add_number-2.ensures
