use Rattle.std.proofs.Common.{rules}
use Rattle.session_way.proofs.way.begin.Goals as goal

pub returns-clause-begun : goal.returns-clause-begun
returns-clause-begun c = search rules

pub returns-clause-back : goal.returns-clause-back
returns-clause-back c = search rules

pub returns-clause-after : goal.returns-clause-after
returns-clause-after c = search rules

pub returns-clause-lawful : goal.returns-clause-lawful
returns-clause-lawful c = search rules
