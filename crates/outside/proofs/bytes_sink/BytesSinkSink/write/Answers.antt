use Rattle.std.proofs.Common.{rules}
use Rattle.outside.proofs.bytes_sink.BytesSinkSink.write.Goals as goal

pub returns-clause-after : goal.returns-clause-after
returns-clause-after c = search rules
