use Rattle.scenario_engine.specs.Transcript.{first, boots_from}
use Rattle.scenario_engine.proofs.Soundness.{serial}
use Rattle.scenario_engine.proofs.laws.no_turns_break_the_order.Goals as goal

pub returns : goal.returns
returns c = λ turns. serial c.legal_journals_are_serial.ensures.serial (boots_from first turns) (c.boots_are_sound.ensures.boots turns)
