use Rattle.std.proofs.Common.{Option, Some, sym, subst}
use Rattle.session_lanes.specs.Lanes.{LanesState}
use Rattle.session_steps.specs.Kept.{HasSoundStore}
use Rattle.seat_lines.proofs.RunSteps.{given_sound}
use Rattle.seat_lines.proofs.seats.Seats.give_back.Goals as goal

pub put_back-requires-in-Some : goal.put_back-requires-in-Some
put_back-requires-in-Some g c =
    let sound : HasSoundStore (Some c.in-Some.lanes) = subst (λ (o : Option LanesState). HasSoundStore o) c.in-Some.is c.lend-lent.ensures.sound in
    subst (λ (st : LanesState). HasSoundStore (Some st)) (sym c.give_back-lanes.ensures.lanes) (given_sound c.bricks_stay_sound.ensures.gone c.replace-seats.result.items c.in-Some.lanes sound)
