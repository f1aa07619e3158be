use Rattle.session_steps.proofs.Between.{refused_called, taken_called}
use Rattle.session_steps.proofs.laws.takes_are_calls_of_windows.Goals as goal

pub returns-clause-taken : goal.returns-clause-taken
returns-clause-taken c = taken_called

pub returns-clause-refused : goal.returns-clause-refused
returns-clause-refused c = refused_called
