use Rattle.boot_core.proofs.Sounding.{sound_new, sound_commit, sound_down, sound_up}
use Rattle.boot_core.proofs.laws.boots_stay_sound.Goals as goal

pub returns-clause-started : goal.returns-clause-started
returns-clause-started c = sound_new

pub returns-clause-commit : goal.returns-clause-commit
returns-clause-commit c = sound_commit

pub returns-clause-down : goal.returns-clause-down
returns-clause-down c = sound_down

pub returns-clause-up : goal.returns-clause-up
returns-clause-up c = sound_up
