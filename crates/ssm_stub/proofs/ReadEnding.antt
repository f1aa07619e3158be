-- A read hears nothing after its answer.
use Rattle.std.proofs.Common.{◌≡◌, ap, refl, ℕ, IsTrue, List, [], ◌∷◌, Some, Result}
use Rattle.session_cookie.specs.declared.cookie.Holder.{Holder}
use Rattle.ssm_stub.specs.declared.event.StubNext.{StubNext}
use Rattle.ssm_stub.specs.declared.event.StubNext.TheVariants.{Send, Receive, Ended}
use Rattle.ssm_stub.specs.declared.event.Told.{Told}
use Rattle.ssm_stub.specs.declared.read_call.ReadRefusal.{ReadRefusal}
use Rattle.ssm_stub.specs.Turns.{turn_in_order, wanted}
use Rattle.ssm_stub.specs.Runs.{fits, Fits}
use Rattle.ssm_stub.specs.Reads.{ReadState, read_answer, turn_unless, read_machine}

-- nothing is wanted once there is an answer
pub ended_by_answer : (s : ReadState) (answer : Result (List ℕ) ReadRefusal) → read_answer s ≡ Some answer → read_machine.next s ≡ Ended
ended_by_answer s answer h = ap (λ o. wanted (λ (holder : Holder). holder.brick) (turn_unless o (turn_in_order s.asks))) h

nothing_fits : (next : StubNext) (told : Told) → next ≡ Ended → IsTrue (fits next told) → ⊥
nothing_fits (Send brick) told h fit = cc
nothing_fits (Receive brick) told h fit = cc
nothing_fits Ended told h fit = cc

-- and nothing is heard
pub hears_nothing : (events : List Told) (s : ReadState) (answer : Result (List ℕ) ReadRefusal) → read_answer s ≡ Some answer → Fits read_machine s events → events ≡ []
hears_nothing [] s answer h fitting = refl
hears_nothing (told ∷ events) s answer h (fit, rest) = absurd (nothing_fits (read_machine.next s) told (ended_by_answer s answer h) fit)
