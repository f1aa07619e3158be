use Rattle.journal_model.proofs.Found.{touches_have, touches_first}
use Rattle.journal_model.proofs.step_laws.enters_leave_touches.Goals as goal

pub returns-clause-touched : goal.returns-clause-touched
returns-clause-touched c = λ es g x call. touches_have es g call.touched

pub returns-clause-first : goal.returns-clause-first
returns-clause-first c = λ es g x call none. touches_first es g call.touched none
