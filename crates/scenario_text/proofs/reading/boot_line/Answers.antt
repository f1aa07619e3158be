use Rattle.std.proofs.Common.{rules}
use Rattle.scenario_text.proofs.reading.boot_line.Goals as goal

pub returns-in_ok-one_text-2 : goal.returns-in_ok-one_text-2
returns-in_ok-one_text-2 c = search rules
