use Rattle.drive_engine.proofs.Calling.{called_once}
use Rattle.drive_engine.proofs.laws.texts_call_for_one_status.Goals as goal

pub returns : goal.returns
returns c = called_once
