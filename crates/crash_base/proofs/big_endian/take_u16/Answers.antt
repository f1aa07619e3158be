use Rattle.std.proofs.Common.{rules}
use Rattle.crash_base.proofs.big_endian.take_u16.Goals as goal

pub returns : goal.returns
returns c = search rules
