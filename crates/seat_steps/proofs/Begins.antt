-- A twin begins by the steps of lent bricks that say so.
use Rattle.std.proofs.Common.{◌≡◌, ℕ, Option, Some, None, refl}
use Rattle.session_lanes.specs.Lanes.{LanesState}
use Rattle.session_steps.specs.Lent.{after_lent}
use Rattle.session_way.specs.declared.way.SessionWay.{SessionWay}
use Rattle.session_way.specs.declared.way.SessionWay.TheVariants as way
use Rattle.ssm_world.specs.declared.call.Call.{Call}
use Rattle.seat_steps.specs.Begins.{begin_steps, way_begin}
use Rattle.seat_steps.specs.Twinned.{begun_there, twinned_by}

way-begins : (st : LanesState) (to : SessionWay) → begun_there st to ≡ after_lent st (way_begin to)
way-begins st way.Resting = refl
way-begins st (way.Reading r) = refl
way-begins st (way.Ordered order) = refl
way-begins st (way.Writing w) = refl
way-begins st (way.Settling w) = refl
way-begins st (way.Holding passes) = refl

pub twin-begins : (o : Option Call) (twin : Option ℕ) (to : SessionWay) (st : LanesState) → (twinned_by o twin to st).store ≡ after_lent st (begin_steps o twin to)
twin-begins None twin to st = refl
twin-begins (Some held) None to st = way-begins st to
twin-begins (Some held) (Some n) to st = refl
