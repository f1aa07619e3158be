-- Whose step is next, and how far a connection has come then.
use Rattle.std.proofs.Common.{◌≡◌, ◌==◌, Bool, true, false, if◌then◌else◌, length, refl, ap, ◌∙◌, Option, Some, None}
use Rattle.session_way.specs.declared.way.Wants.{Wants}
use Rattle.session_way.specs.declared.way.Wants.TheVariants as wanted
use Rattle.http_wire.specs.Taking.{settles, taken_of}
use Rattle.request_visit.specs.Visits.{turn as visit_turn, turn_by as visit_turn_by}
use Rattle.request_visit.specs.declared.visit.Fate.{Fate}
use Rattle.request_visit.specs.declared.visit.Turn.{Turn}
use Rattle.request_visit.specs.declared.visit.Turn.TheVariants as visit
use Rattle.request_visit.specs.declared.visit.Work.{Work}
use Rattle.request_visit.specs.declared.visit.Work.TheVariants.{Reading, Opening, Serving as ServingBy, Committed, Decided, Answered, Left}
use Rattle.shepherd.specs.Shepherds.{stage_turn, turn, turn_by}
use Rattle.shepherd.specs.Standing.{has_left, is_early}
use Rattle.shepherd.specs.Steps.{MayPutOut, OnVisit}
use Rattle.shepherd.specs.declared.shepherd.EndKind.TheVariants as ends
use Rattle.shepherd.specs.declared.shepherd.Shepherd.{Shepherd}
use Rattle.shepherd.specs.declared.shepherd.ShepherdTurn.{ShepherdTurn}
use Rattle.shepherd.specs.declared.shepherd.ShepherdTurn.TheVariants as turns
use Rattle.shepherd.specs.declared.shepherd.Stage.{Stage}
use Rattle.shepherd.specs.declared.shepherd.Stage.TheVariants.{Resting, Serving, Refusing, Over}

-- the turn of the request that is open, where it is its step; the output is none of these
abbrev pub step_of : ShepherdTurn → Option Turn
step_of turns.Bytes = None
step_of turns.Request = None
step_of turns.Outside = Some visit.Outside
step_of turns.Windows = Some visit.Windows
step_of turns.Inside = Some visit.Inside
step_of turns.Program = Some visit.Program
step_of turns.Own = Some visit.Own
step_of turns.Output = None
step_of turns.Item = Some visit.Over
step_of (turns.Ended end) = None

none_resting : (a b c : Bool) → step_of (if a then turns.Request else (if b then (if c then turns.Ended ends.Closed else turns.Ended ends.Cut) else turns.Bytes)) ≡ None
none_resting true b c = refl
none_resting false true true = refl
none_resting false true false = refl
none_resting false false c = refl

back : (t wanted : Turn) → step_of (turn_by t) ≡ Some wanted → t ≡ wanted
back visit.Outside wanted is = cc
back visit.Windows wanted is = cc
back visit.Inside wanted is = cc
back visit.Program wanted is = cc
back visit.Own wanted is = cc
back visit.Output wanted is = absurd (cc)
back visit.Over wanted is = cc

-- A step of the request that is open is next only where one is open, and its turn is that.
pub asks_visit : {P : Type 0} (s : Shepherd P) (wanted : Turn) → step_of (turn s) ≡ Some wanted → OnVisit s.stage (λ v call. visit_turn v ≡ wanted)
asks_visit {P} s wanted is = by_memory s.wants_memory is where
  by_stage : (stage : Stage P) → step_of (stage_turn stage s.received s.ended) ≡ Some wanted → OnVisit stage (λ v call. visit_turn v ≡ wanted)
  by_stage Resting e = absurd (let none = none_resting (settles (taken_of s.received)) s.ended (length s.received == 0) in cc)
  by_stage (Serving v call) e = back (visit_turn v) wanted e
  by_stage (Refusing why bytes) e = absurd (cc)
  by_stage (Over end) e = absurd (cc)

  by_memory : (m : Bool) → step_of (if m then turns.Ended ends.OutOfMemory else stage_turn s.stage s.received s.ended) ≡ Some wanted → OnVisit s.stage (λ v call. visit_turn v ≡ wanted)
  by_memory true e = absurd (cc)
  by_memory false e = by_stage s.stage e

pub is_visit_turn : (t : ShepherdTurn) (wanted : Turn) → step_of t ≡ Some wanted → (u : ShepherdTurn) → u ≡ t → step_of u ≡ Some wanted
is_visit_turn t wanted e u same = ap step_of same ∙ e

-- whether a response is to leave
abbrev is_output : ShepherdTurn → Bool
is_output turns.Bytes = false
is_output turns.Request = false
is_output turns.Outside = false
is_output turns.Windows = false
is_output turns.Inside = false
is_output turns.Program = false
is_output turns.Own = false
is_output turns.Output = true
is_output turns.Item = false
is_output (turns.Ended end) = false

not_resting : (a b c : Bool) → is_output (if a then turns.Request else (if b then (if c then turns.Ended ends.Closed else turns.Ended ends.Cut) else turns.Bytes)) ≡ false
not_resting true b c = refl
not_resting false true true = refl
not_resting false true false = refl
not_resting false false c = refl

out_of : (t : Turn) → is_output (turn_by t) ≡ true → t ≡ visit.Output
out_of visit.Outside is = absurd (cc)
out_of visit.Windows is = absurd (cc)
out_of visit.Inside is = absurd (cc)
out_of visit.Program is = absurd (cc)
out_of visit.Own is = absurd (cc)
out_of visit.Output is = refl
out_of visit.Over is = absurd (cc)

pub asks_output : {P : Type 0} (s : Shepherd P) → turn s ≡ turns.Output → MayPutOut s.stage
asks_output {P} s is = by_memory s.wants_memory (ap is_output is) where
  by_stage : (stage : Stage P) → is_output (stage_turn stage s.received s.ended) ≡ true → MayPutOut stage
  by_stage Resting e = absurd (let none = not_resting (settles (taken_of s.received)) s.ended (length s.received == 0) in cc)
  by_stage (Serving v call) e = out_of (visit_turn v) e
  by_stage (Refusing why bytes) e = tt
  by_stage (Over end) e = absurd (cc)

  by_memory : (m : Bool) → is_output (if m then turns.Ended ends.OutOfMemory else stage_turn s.stage s.received s.ended) ≡ true → MayPutOut s.stage
  by_memory true e = absurd (cc)
  by_memory false e = by_stage s.stage e

-- whether a request is to be taken
abbrev is_request : ShepherdTurn → Bool
is_request turns.Bytes = false
is_request turns.Request = true
is_request turns.Outside = false
is_request turns.Windows = false
is_request turns.Inside = false
is_request turns.Program = false
is_request turns.Own = false
is_request turns.Output = false
is_request turns.Item = false
is_request (turns.Ended end) = false

not_by : (t : Turn) → is_request (turn_by t) ≡ false
not_by visit.Outside = refl
not_by visit.Windows = refl
not_by visit.Inside = refl
not_by visit.Program = refl
not_by visit.Own = refl
not_by visit.Output = refl
not_by visit.Over = refl

settled : (a b c : Bool) → is_request (if a then turns.Request else (if b then (if c then turns.Ended ends.Closed else turns.Ended ends.Cut) else turns.Bytes)) ≡ true → a ≡ true
settled true b c e = refl
settled false true true e = absurd (cc)
settled false true false e = absurd (cc)
settled false false c e = absurd (cc)

-- A request is taken where none is open, and the bytes settle what they begin with.
pub asks_request : {P : Type 0} (s : Shepherd P) → turn s ≡ turns.Request → (s.stage ≡ Resting) × (settles (taken_of s.received) ≡ true)
asks_request {P} s is = by_memory s.wants_memory (ap is_request is) where
  by_stage : (stage : Stage P) → is_request (stage_turn stage s.received s.ended) ≡ true → (stage ≡ Resting) × (settles (taken_of s.received) ≡ true)
  by_stage Resting e = (refl, settled (settles (taken_of s.received)) s.ended (length s.received == 0) e)
  by_stage (Serving v call) e = absurd (let none = not_by (visit_turn v) in cc)
  by_stage (Refusing why bytes) e = absurd (cc)
  by_stage (Over end) e = absurd (cc)

  by_memory : (m : Bool) → is_request (if m then turns.Ended ends.OutOfMemory else stage_turn s.stage s.received s.ended) ≡ true → (s.stage ≡ Resting) × (settles (taken_of s.received) ≡ true)
  by_memory true e = absurd (cc)
  by_memory false e = by_stage s.stage e

-- the response of a request that is to leave has not left
pub unsent : {P : Type 0} (w : Work P) (want : Wants) → visit_turn_by w want ≡ visit.Output → has_left w ≡ false
unsent Reading want is = refl
unsent Opening want is = refl
unsent (ServingBy tries program) want is = refl
unsent (Committed place again shown) want is = refl
unsent (Decided became) want is = refl
unsent (Answered fate bytes) want is = refl
unsent (Left fate) wanted.Nothing is = absurd (cc)
unsent (Left fate) wanted.Outside is = absurd (cc)
unsent (Left fate) wanted.Windows is = absurd (cc)

-- a request whose program is to be made is early
pub early : {P : Type 0} (w : Work P) (want : Wants) → visit_turn_by w want ≡ visit.Program → is_early w ≡ true
early Reading wanted.Nothing is = refl
early Reading wanted.Outside is = refl
early Reading wanted.Windows is = refl
early Opening want is = refl
early (ServingBy tries program) want is = absurd (cc)
early (Committed place again shown) wanted.Nothing is = absurd (cc)
early (Committed place again shown) wanted.Outside is = absurd (cc)
early (Committed place again shown) wanted.Windows is = absurd (cc)
early (Decided became) want is = absurd (cc)
early (Answered fate bytes) want is = absurd (cc)
early (Left fate) wanted.Nothing is = absurd (cc)
early (Left fate) wanted.Outside is = absurd (cc)
early (Left fate) wanted.Windows is = absurd (cc)

-- the response of a request whose program is to be made has not left
pub unmade : {P : Type 0} (w : Work P) (want : Wants) → visit_turn_by w want ≡ visit.Program → has_left w ≡ false
unmade Reading want is = refl
unmade Opening want is = refl
unmade (ServingBy tries program) want is = refl
unmade (Committed place again shown) want is = refl
unmade (Decided became) want is = refl
unmade (Answered fate bytes) want is = refl
unmade (Left fate) wanted.Nothing is = absurd (cc)
unmade (Left fate) wanted.Outside is = absurd (cc)
unmade (Left fate) wanted.Windows is = absurd (cc)

-- what became so far of a request whose response has left
pub fate_of : {P : Type 0} (w : Work P) → has_left w ≡ true → (fate : Fate) × (w ≡ Left fate)
fate_of Reading e = absurd (cc)
fate_of Opening e = absurd (cc)
fate_of (ServingBy tries program) e = absurd (cc)
fate_of (Committed place again shown) e = absurd (cc)
fate_of (Decided became) e = absurd (cc)
fate_of (Answered fate bytes) e = absurd (cc)
fate_of (Left fate) e = (fate, refl)
