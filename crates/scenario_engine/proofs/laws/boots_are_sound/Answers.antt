use Rattle.scenario_engine.proofs.SeatsFit.{SeatLaws}
use Rattle.scenario_engine.proofs.Soundness.{BootLaws, sound_in_all, sound_at_end}
use Rattle.scenario_engine.proofs.laws.boots_are_sound.Goals as goal

pub returns : goal.returns
returns c =
    let sound = c.boots_stay_sound.ensures in
    let laws : BootLaws = record {
      started = sound.started;
      commit = sound.commit;
      down = sound.down;
      up = sound.up;
    } in
    let fit = c.attempts_fit.ensures in
    let at = c.boots_stay_sound_at_seats.ensures in
    let seats : SeatLaws = record {
      begins = fit.begins;
      step = fit.step;
      others = fit.others;
      meanwhile = fit.meanwhile;
      still = fit.still;
      commits = at.commits;
      sound = at.sound;
    } in
    record { boots = sound_in_all laws seats; state = sound_at_end laws seats }
