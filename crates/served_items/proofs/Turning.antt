-- Whose step is next, and how far a connection has come then.
use Rattle.std.proofs.Common.{◌≡◌, Bool, true, false, if◌then◌else◌, refl, sym, ap, ◌∙◌, Option, Some, None}
use Rattle.request_visit.specs.Visits.{turn as visit_turn, turn_by as visit_turn_by}
use Rattle.request_visit.specs.declared.visit.Fate.{Fate}
use Rattle.request_visit.specs.declared.visit.Turn.{Turn}
use Rattle.request_visit.specs.declared.visit.Turn.TheVariants as visit
use Rattle.request_visit.specs.declared.visit.Visit.{Visit}
use Rattle.request_visit.specs.declared.visit.Work.{Work}
use Rattle.request_visit.specs.declared.visit.Work.TheVariants.{Reading, Opening, Serving as ServingBy, Committed, Decided, Answered, Left}
use Rattle.session_way.specs.declared.way.Wants.{Wants}
use Rattle.session_way.specs.declared.way.Wants.TheVariants as wanted
use Rattle.shepherd.specs.Shepherds.{is_over, stage_turn, turn, turn_by}
use Rattle.shepherd.specs.Standing.{has_left}
use Rattle.shepherd.specs.declared.shepherd.AskedCall.{AskedCall}
use Rattle.shepherd.specs.declared.shepherd.EndKind.TheVariants as ends
use Rattle.shepherd.specs.declared.shepherd.Shepherd.{Shepherd}
use Rattle.shepherd.specs.declared.shepherd.ShepherdTurn.{ShepherdTurn}
use Rattle.shepherd.specs.declared.shepherd.ShepherdTurn.TheVariants as turns
use Rattle.shepherd.specs.declared.shepherd.Stage.{Stage}
use Rattle.shepherd.specs.declared.shepherd.Stage.TheVariants.{Resting, Serving, Refusing, Over}

-- the turn of the request that is open, where it is its step
abbrev pub visit_step : ShepherdTurn → Option Turn
visit_step turns.Bytes = None
visit_step turns.Request = None
visit_step turns.Outside = Some visit.Outside
visit_step turns.Windows = Some visit.Windows
visit_step turns.Inside = Some visit.Inside
visit_step turns.Program = Some visit.Program
visit_step turns.Own = Some visit.Own
visit_step turns.Output = Some visit.Output
visit_step turns.Item = Some visit.Over
visit_step (turns.Ended end) = None

-- whether a request is to be taken
abbrev takes : ShepherdTurn → Bool
takes turns.Bytes = false
takes turns.Request = true
takes turns.Outside = false
takes turns.Windows = false
takes turns.Inside = false
takes turns.Program = false
takes turns.Own = false
takes turns.Output = false
takes turns.Item = false
takes (turns.Ended end) = false

by_visit : (t : Turn) → (visit_step (turn_by t) ≡ Some t) × (takes (turn_by t) ≡ false)
by_visit visit.Outside = (refl, refl)
by_visit visit.Windows = (refl, refl)
by_visit visit.Inside = (refl, refl)
by_visit visit.Program = (refl, refl)
by_visit visit.Own = (refl, refl)
by_visit visit.Output = (refl, refl)
by_visit visit.Over = (refl, refl)

-- The request that is open has this turn, where the connection has it.
pub turned : {P : Type 0} (s : Shepherd P) (v : Visit P) (call : Option AskedCall) (wanted : Turn)
    → s.stage ≡ Serving v call → visit_step (turn s) ≡ Some wanted → visit_turn v ≡ wanted
turned {P} s v call wanted was is = by s.wants_memory is where
  by : (m : Bool) → visit_step (if m then turns.Ended ends.OutOfMemory else stage_turn s.stage s.received s.ended) ≡ Some wanted → visit_turn v ≡ wanted
  by true e = absurd (cc)
  by false e =
      let f : visit_step (turn_by (visit_turn v)) ≡ Some wanted = sym (ap (λ (x : Stage P). visit_step (stage_turn x s.received s.ended)) was) ∙ e in
      let g = (by_visit (visit_turn v)).0 in
      cc

-- A request is taken where none is open.
pub rests : {P : Type 0} (s : Shepherd P) → turn s ≡ turns.Request → s.stage ≡ Resting
rests {P} s is = by_memory s.wants_memory (ap takes is) where
  by_stage : (stage : Stage P) → takes (stage_turn stage s.received s.ended) ≡ true → stage ≡ Resting
  by_stage Resting e = refl
  by_stage (Serving v call) e = absurd (let none = (by_visit (visit_turn v)).1 in cc)
  by_stage (Refusing why bytes) e = absurd (cc)
  by_stage (Over end) e = absurd (cc)

  by_memory : (m : Bool) → takes (if m then turns.Ended ends.OutOfMemory else stage_turn s.stage s.received s.ended) ≡ true → s.stage ≡ Resting
  by_memory true e = absurd (cc)
  by_memory false e = by_stage s.stage e

-- a request whose program is to be made is at that stage
pub opening : {P : Type 0} (w : Work P) (want : Wants) → visit_turn_by w want ≡ visit.Program → w ≡ Opening
opening Reading wanted.Nothing is = absurd (cc)
opening Reading wanted.Outside is = absurd (cc)
opening Reading wanted.Windows is = absurd (cc)
opening Opening want is = refl
opening (ServingBy tries program) want is = absurd (cc)
opening (Committed place again shown) wanted.Nothing is = absurd (cc)
opening (Committed place again shown) wanted.Outside is = absurd (cc)
opening (Committed place again shown) wanted.Windows is = absurd (cc)
opening (Decided became) want is = absurd (cc)
opening (Answered fate bytes) want is = absurd (cc)
opening (Left fate) wanted.Nothing is = absurd (cc)
opening (Left fate) wanted.Outside is = absurd (cc)
opening (Left fate) wanted.Windows is = absurd (cc)

pub over_now : (t : Turn) → is_over t ≡ true → t ≡ visit.Over
over_now visit.Outside is = absurd (cc)
over_now visit.Windows is = absurd (cc)
over_now visit.Inside is = absurd (cc)
over_now visit.Program is = absurd (cc)
over_now visit.Own is = absurd (cc)
over_now visit.Output is = absurd (cc)
over_now visit.Over is = refl

-- a response that has left, has left with some fate
pub fate_of : {P : Type 0} (w : Work P) → has_left w ≡ true → (fate : Fate) × (w ≡ Left fate)
fate_of Reading is = absurd (cc)
fate_of Opening is = absurd (cc)
fate_of (ServingBy tries program) is = absurd (cc)
fate_of (Committed place again shown) is = absurd (cc)
fate_of (Decided became) is = absurd (cc)
fate_of (Answered fate bytes) is = absurd (cc)
fate_of (Left fate) is = (fate, refl)
