use Rattle.scenario_engine.proofs.Requesting.{own_in_all}
use Rattle.scenario_engine.proofs.SeatsFit.{SeatLaws}
use Rattle.scenario_engine.proofs.laws.commits_are_of_their_boot.Goals as goal

pub returns : goal.returns
returns c =
    let fit = c.attempts_fit.ensures in
    let at = c.boots_stay_sound_at_seats.ensures in
    let seats : SeatLaws = record {
      begins = fit.begins;
      step = fit.step;
      others = fit.others;
      meanwhile = fit.meanwhile;
      still = fit.still;
      commits = at.commits;
      sound = at.sound;
    } in
    own_in_all seats
