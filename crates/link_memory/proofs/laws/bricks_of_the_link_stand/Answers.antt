use Rattle.std.proofs.Common.{◌≡◌, refl, ◌-◌, ◌∷◌, Option, Some, None}
use Rattle.std.specs.List.{slice_get}
use Rattle.brick_store.specs.declared.event.BrickEvent.TheVariants.{Crash, Sweep}
use Rattle.ssm_frames.specs.declared.frame.Frame.{Frame}
use Rattle.link_memory.specs.Lane.{LaneValue, crashed_lane, swept_lane, losing, dropping, repeated, with_repeat}
use Rattle.link_memory.proofs.Histories.{changed_stands, unchanged_stands, event_stands, new_stands}
use Rattle.link_memory.proofs.laws.bricks_of_the_link_stand.Goals as goal

pub returns-clause-new : goal.returns-clause-new
returns-clause-new c = λ bricks. new_stands c.bricks_stand_for_their_history.ensures.new bricks

pub returns-clause-event : goal.returns-clause-event
returns-clause-event c = λ old new event histories stand made. event_stands c.bricks_stand_for_their_history.ensures.answered old new event histories stand made

pub returns-clause-crash : goal.returns-clause-crash
returns-clause-crash c = λ link brick histories stand. changed_stands link brick crashed_lane (Crash ∷ histories brick.0) histories stand
    (λ lane here before. record { number_is = before.number_is; stands = c.bricks_stand_for_their_history.ensures.crashed 1 (histories brick.0) lane.brick before.stands })

pub returns-clause-sweep : goal.returns-clause-sweep
returns-clause-sweep c = λ link brick moment histories stand. changed_stands link brick (swept_lane moment) (Sweep moment ∷ histories brick.0) histories stand
    (λ lane here before. record { number_is = before.number_is; stands = c.bricks_stand_for_their_history.ensures.swept 1 (histories brick.0) lane.brick moment before.stands })

pub returns-clause-lose : goal.returns-clause-lose
returns-clause-lose c = λ link brick more histories stand. unchanged_stands link brick (losing more) histories (λ lane. refl) stand

pub returns-clause-drop_asks : goal.returns-clause-drop_asks
returns-clause-drop_asks c = λ link brick more histories stand. unchanged_stands link brick (dropping more) histories (λ lane. refl) stand

repeats : (found : Option Frame) (lane : LaneValue) → (with_repeat found lane).brick ≡ lane.brick
repeats None lane = refl
repeats (Some new) lane = refl

pub returns-clause-repeat : goal.returns-clause-repeat
returns-clause-repeat c = λ link brick number histories stand. unchanged_stands link brick (repeated number) histories (λ lane. repeats (slice_get lane.made (number - 1)) lane) stand
