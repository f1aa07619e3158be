-- How the twin of what a connection does with its session begins, as steps of lent bricks.
use Rattle.std.specs.Prelude.{ℕ, List, [], ◌∷◌, Option, Some, None}
use Rattle.session_steps.specs.Lent.{BeginsRead, BeginsWrite, LentStep}
use Rattle.session_way.specs.Reading.{cookie_asked}
use Rattle.session_way.specs.Writing.{WritingState}
use Rattle.session_way.specs.declared.way.SessionWay.{SessionWay}
use Rattle.session_way.specs.declared.way.SessionWay.TheVariants as way
use Rattle.ssm_world.specs.declared.call.Call.{Call}
use Rattle.seat_steps.specs.Twinned.{value_put}

-- the begin of a write as this one began
abbrev pub write_begin : WritingState → List LentStep
write_begin w = BeginsWrite w.write.nonce w.write.key (value_put w.write.ask) w.write.expiry w.passes ∷ []

-- the begin of what a way holds, if it holds something
abbrev pub way_begin : SessionWay → List LentStep
way_begin way.Resting = []
way_begin (way.Reading r) = BeginsRead r.nonce r.moment (cookie_asked r) ∷ []
way_begin (way.Ordered order) = []
way_begin (way.Writing w) = write_begin w
way_begin (way.Settling w) = write_begin w
way_begin (way.Holding passes) = []

-- the begin of a twin, where there is none yet
abbrev pub begin_steps : Option Call → Option ℕ → SessionWay → List LentStep
begin_steps None twin to = []
begin_steps (Some held) None to = way_begin to
begin_steps (Some held) (Some number) to = []
