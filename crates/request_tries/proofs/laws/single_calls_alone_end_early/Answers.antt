use Rattle.request_tries.proofs.Early.{early_ends, early_refused, early_step}
use Rattle.request_tries.proofs.laws.single_calls_alone_end_early.Goals as goal

pub returns-clause-ended : goal.returns-clause-ended
returns-clause-ended c = early_ends

pub returns-clause-stopped : goal.returns-clause-stopped
returns-clause-stopped c = early_step

pub returns-clause-refused : goal.returns-clause-refused
returns-clause-refused c = early_refused
