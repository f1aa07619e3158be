use Rattle.scenario_engine.specs.Transcript.{first, boots_from}
use Rattle.scenario_engine.proofs.Soundness.{unrebooted}
use Rattle.scenario_engine.proofs.laws.no_turns_commit_after_a_reboot.Goals as goal

pub returns : goal.returns
returns c = λ turns. unrebooted c.no_commit_after_a_reboot.ensures (boots_from first turns) (c.boots_are_sound.ensures.boots turns)
