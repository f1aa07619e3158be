-- How many calls of the link and of the windows are left for a session at most.
use Rattle.std.specs.Prelude.{ℕ, ◌+◌, ◌-◌, ◌*◌, List}
use Rattle.std.specs.List.{sum_by}
use Rattle.send_windows.specs.declared.fact.TheConstants.{MAX_BRICKS}
use Rattle.ssm_stub.specs.declared.ask.Ask.{Ask}
use Rattle.ssm_stub.specs.declared.ear.Ear.{Ear}
use Rattle.ssm_stub.specs.declared.ear.Ear.TheVariants.{Open, Heard}
use Rattle.ssm_stub.specs.declared.ear.Stage.TheVariants.{Unasked, Asked}
use Rattle.ssm_stub.specs.declared.ear.TheConstants.{MAX_STRAYS}
use Rattle.session_way.specs.declared.way.SessionWay.{SessionWay}
use Rattle.session_way.specs.declared.way.SessionWay.TheVariants.{Resting, Reading, Ordered, Writing, Settling, Holding}

-- the calls that are left for a brick: its ask is sent, and then a frame comes for each stray that may still come, or a
-- silence
abbrev pub calls_for : {A : Type 0} → Ear A → ℕ
calls_for (Open Unasked) = MAX_STRAYS + 1
calls_for (Open (Asked strays)) = MAX_STRAYS - 1 - strays + 1
calls_for (Heard outcome) = 0

-- the calls that are left for all that are asked
abbrev pub calls_of : {W A : Type 0} → List (Ask W A) → ℕ
calls_of {W} {A} asks = sum_by (λ (ask : Ask W A). calls_for ask.ear) asks

-- the calls of a write: the take of passes, those for each brick, and the spend
abbrev pub write_calls : ℕ
write_calls = 1 + MAX_BRICKS * (MAX_STRAYS + 1) + 1

-- The calls that are left for a session: those of its read; or those of its write, and the spend of its passes.
abbrev pub calls_left : SessionWay → ℕ
calls_left Resting = 0
calls_left (Reading r) = calls_of r.asks
calls_left (Ordered order) = write_calls
calls_left (Writing w) = calls_of w.write.asks + 1
calls_left (Settling w) = calls_of w.write.asks + 1
calls_left (Holding passes) = 1
