use Rattle.scenario_engine.proofs.Meant.{MeantLaws, meant_in_all}
use Rattle.scenario_engine.proofs.SeatsFit.{SeatLaws}
use Rattle.scenario_engine.proofs.connections.journals_are_meant.Goals as goal

pub returns : goal.returns
returns c =
    let stay = c.journals_stay_meant.ensures in
    let fit = c.attempts_fit.ensures in
    let at = c.boots_stay_sound_at_seats.ensures in
    let laws : MeantLaws = record {
      empty = stay.empty;
      down = stay.down;
      up = stay.up;
      plain = stay.plain;
      step = at.meant;
      begins = c.seats_spell_their_calls.ensures.begins;
      spells = c.seats_spell_their_calls.ensures.step;
      still = c.seats_spell_their_calls.ensures.still;
      last = c.moments_stay_in_time.ensures.last;
      lines = c.moments_stay_in_time.ensures.lines;
    } in
    let seats : SeatLaws = record {
      begins = fit.begins;
      step = fit.step;
      others = fit.others;
      meanwhile = fit.meanwhile;
      still = fit.still;
      commits = at.commits;
      sound = at.sound;
    } in
    meant_in_all laws seats
