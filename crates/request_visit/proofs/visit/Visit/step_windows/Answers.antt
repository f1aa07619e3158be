use Rattle.std.proofs.Common.{rules}
use Rattle.request_visit.proofs.visit.Visit.step_windows.Goals as goal

pub returns-in-Err-OutOfMemory-clause-rest : goal.returns-in-Err-OutOfMemory-clause-rest
returns-in-Err-OutOfMemory-clause-rest g c = search rules

pub returns-in-Err-Overload-clause-step : goal.returns-in-Err-Overload-clause-step
returns-in-Err-Overload-clause-step g c = search rules
