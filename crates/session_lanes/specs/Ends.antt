-- When a call has ended.
use Rattle.std.specs.Prelude.{◌≡◌, ℕ, List, length, slice_get, Some, Result}
use Rattle.session_cookie.specs.declared.cookie.Cookie.{Cookie}
use Rattle.ssm_stub.specs.Reads.{read_answer}
use Rattle.ssm_stub.specs.Writes.{write_answer}
use Rattle.ssm_stub.specs.declared.event.StubNext.TheVariants as next
use Rattle.ssm_stub.specs.declared.read_call.ReadRefusal.{ReadRefusal}
use Rattle.ssm_stub.specs.declared.write_call.WriteRefusal.{WriteRefusal}
use Rattle.ssm_world.specs.declared.call.Call.{Call}
use Rattle.ssm_world.specs.declared.call.Call.TheVariants as call
use Rattle.ssm_world.specs.Worlds.{next_of}
use Rattle.session_lanes.specs.Lanes.{LanesState}

-- how many bricks a call asks
abbrev pub bricks_asked : Call → ℕ
bricks_asked (call.Write write) = length write.asks
bricks_asked (call.Read read) = length read.asks

-- a call has its answer
abbrev pub IsAnswered : Call → Type 0
IsAnswered (call.Write write) = (answer : Result Cookie WriteRefusal) × (write_answer write ≡ Some answer)
IsAnswered (call.Read read) = (answer : Result (List ℕ) ReadRefusal) × (read_answer read ≡ Some answer)

-- the call of a number wants nothing more, and has its answer
pub record HasEnded (st : LanesState) (number : ℕ) : Type 0 where
  pub end : Call
  pub there : slice_get st.world.calls number ≡ Some end
  pub over : next_of end ≡ next.Ended
  pub answered : IsAnswered end
