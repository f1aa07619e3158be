use Rattle.drive_engine.proofs.Calling.{status_called}
use Rattle.drive_engine.proofs.laws.texts_call_for_a_status.Goals as goal

pub returns : goal.returns
returns c = status_called c.texts_have_an_answer.ensures
