use Rattle.std.proofs.Common.{refl}
use Rattle.seat_laws.proofs.Meanwhile.{calls-stand, gone-stands, lanes-stand, still-stands}
use Rattle.seat_laws.proofs.laws.seats_stand_meanwhile.Goals as goal

pub returns-clause-begins : goal.returns-clause-begins
returns-clause-begins c = λ st sound limits. record { sound = sound; limits = limits; twin = refl }

pub returns-clause-still : goal.returns-clause-still
returns-clause-still c = still-stands

pub returns-clause-lanes : goal.returns-clause-lanes
returns-clause-lanes c = lanes-stand (record {
  sound = c.lanes_stay_sound.ensures.all;
  windowed = c.lanes_go_by_events.ensures.windows;
  events = c.lanes_go_by_events.ensures.steps;
  stays = c.twins_stay.ensures.steps;
})

pub returns-clause-gone : goal.returns-clause-gone
returns-clause-gone c = gone-stands (record {
  sound = c.lanes_stay_sound.ensures.all;
  windowed = c.lanes_go_by_events.ensures.windows;
  events = c.lanes_go_by_events.ensures.steps;
  stays = c.twins_stay.ensures.steps;
}) c.windows_keep_their_limits.ensures.call

pub returns-clause-calls : goal.returns-clause-calls
returns-clause-calls c = calls-stand
