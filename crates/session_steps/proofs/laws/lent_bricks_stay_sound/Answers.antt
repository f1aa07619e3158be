use Rattle.session_lanes.specs.Sound.{LanesAreSound}
use Rattle.session_steps.proofs.LentGone.{lent_sound}
use Rattle.session_steps.specs.Lent.{after_lent}
use Rattle.session_steps.proofs.laws.lent_bricks_stay_sound.Goals as goal

pub returns : goal.returns
returns c st steps sound =
    let later : LanesAreSound (after_lent st steps) = lent_sound steps st (record { made = sound.0; lanes = sound.1 }) in
    (later.made, later.lanes)
