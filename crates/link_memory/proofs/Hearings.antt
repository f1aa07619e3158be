-- A run of one asked brick over the link.
use Rattle.std.proofs.Common.{arith, ◌≡◌, ◌∙◌, ap, sym, refl, subst, ℕ, IsTrue, List, [], ◌∷◌, map, Option, Some, None}
use Rattle.std.specs.List.{fold}
use Rattle.std.specs.Option.{option_map, option_and_then}
use Rattle.std.proofs.lemmas.List.Elements.{All-nil}
use Rattle.crash_base.specs.declared.numbers.BrickNo.{BrickNo}
use Rattle.outside.specs.Link.{Made}
use Rattle.ssm_frames.specs.declared.frame.Frame.{Frame}
use Rattle.ssm_frames.specs.Reading.{decode_of}
use Rattle.ssm_stub.specs.declared.ear.Stage.{Stage}
use Rattle.ssm_stub.specs.declared.ear.Stage.TheVariants.{Unasked, Asked}
use Rattle.ssm_stub.specs.declared.ear.Outcome.{Outcome}
use Rattle.ssm_stub.specs.declared.ear.Outcome.TheVariants.{Silent}
use Rattle.ssm_stub.specs.declared.ear.Ear.{Ear}
use Rattle.ssm_stub.specs.declared.ear.Ear.TheVariants.{Open, Heard}
use Rattle.ssm_stub.specs.declared.event.StubEvent.{StubEvent}
use Rattle.ssm_stub.specs.declared.event.StubEvent.TheVariants as event
use Rattle.ssm_stub.specs.Ears.{after_frame, heard, heard_on}
use Rattle.ssm_stub.specs.Turns.{wanted_of}
use Rattle.ssm_stub.specs.Hearing.{ear_machine}
use Rattle.ssm_stub.specs.Runs.{told_of, fits, Fits, call_of, calls, Ran}
use Rattle.link_lanes.specs.Lanes.{lane_of}
use Rattle.link_memory.specs.Lane.{LaneValue, silent}
use Rattle.link_memory.specs.Leaving.{IsUnlawful, HeardAt, HeardOver}
use Rattle.link_memory.specs.Script.{ScriptValue, Gives, ScriptMakes}
use Rattle.link_memory.proofs.Steps.{Progress, own_hushed, frame_step, silence_step, beside_step, made_split}

-- a number without a brick was heard
abbrev NoneHeard : {A : Type 0} → Ear A → Type 0
NoneHeard (Open Unasked) = ⊥
NoneHeard (Open (Asked strays)) = Unit {0}
NoneHeard (Heard outcome) = outcome ≡ Silent

abbrev HeardSo : {A : Type 0} → (Frame → Option A) → Ear A → Option LaneValue → Option LaneValue → Type 0
HeardSo lawful ear None left = NoneHeard ear × (left ≡ None)
HeardSo lawful ear (Some lane) left = Progress lawful ear lane left

module _ {A : Type 0} (lawful : Frame → Option A) (ask : List ℕ) (brick : BrickNo) where
  step : (stage : Stage) (e : StubEvent) (found : Option LaneValue) (link mid : ScriptValue) → HeardSo lawful (Open stage) found (lane_of link brick.0) → IsTrue (fits (wanted_of brick stage) (told_of e)) → Made ScriptMakes link (call_of ask (wanted_of brick stage) e) mid → HeardSo lawful (heard lawful stage (told_of e)) found (lane_of mid brick.0)
  step Unasked e None link mid before fit made = absurd before.0
  step Unasked e (Some lane) link mid before fit made = absurd before
  step (Asked strays) event.Sent found link mid before fit made = absurd cc
  step (Asked strays) (event.Frame bytes) None link mid before fit (next, (gives, few, is), end) = absurd (let P : Option LaneValue → Type 0 = λ o. Gives bytes o in subst P before.1 gives)
  step (Asked strays) event.Silent None link mid before fit (next, (quiet, few, is), end) =
      (refl, ap (λ l. lane_of l brick.0) (sym end ∙ is) ∙ (own_hushed link brick ∙ ap (option_map silent) before.1))
  step (Asked strays) (event.Frame bytes) (Some lane) link mid before fit (next, made, end) =
      (let P : ScriptValue → Type 0 = λ l. Progress lawful (after_frame (Asked strays) (option_and_then lawful (decode_of bytes))) lane (lane_of l brick.0) in subst P end (frame_step lawful strays lane brick bytes link next before made))
  step (Asked strays) event.Silent (Some lane) link mid before fit (next, made, end) =
      (let P : ScriptValue → Type 0 = λ l. Progress lawful (Heard Silent) lane (lane_of l brick.0) in subst P end (silence_step lawful strays lane brick link next before made))

  run : (events : List StubEvent) (ear : Ear A) (found : Option LaneValue) (link new : ScriptValue) → HeardSo lawful ear found (lane_of link brick.0) → Fits (ear_machine brick lawful) ear (map told_of events) → Made ScriptMakes link (calls (ear_machine brick lawful) ask ear events) new → HeardSo lawful (fold (heard_on lawful) ear (map told_of events)) found (lane_of new brick.0)
  run [] ear found link new before fit made = (let P : ScriptValue → Type 0 = λ l. HeardSo lawful ear found (lane_of l brick.0) in subst P made before)
  run (e ∷ events) (Heard outcome) found link new before fit made = absurd (let first = fit.0 in cc)
  run (e ∷ events) (Open stage) found link new before fit made =
      let parts = made_split (call_of ask (wanted_of brick stage) e) (calls (ear_machine brick lawful) ask (heard lawful stage (told_of e)) events) link new made in
      run events (heard lawful stage (told_of e)) found parts.0 new (step stage e found link parts.0 before fit.0 parts.1) fit.1 parts.2

  beside : (other : ℕ) → (brick.0 ≡ other → ⊥) → (events : List StubEvent) (ear : Ear A) (link new : ScriptValue) → Fits (ear_machine brick lawful) ear (map told_of events) → Made ScriptMakes link (calls (ear_machine brick lawful) ask ear events) new → lane_of new other ≡ lane_of link other
  beside other differ [] ear link new fit made = ap (λ l. lane_of l other) (sym made)
  beside other differ (e ∷ events) (Heard outcome) link new fit made = absurd (let first = fit.0 in cc)
  beside other differ (e ∷ events) (Open stage) link new fit made =
      let parts = made_split (call_of ask (wanted_of brick stage) e) (calls (ear_machine brick lawful) ask (heard lawful stage (told_of e)) events) link new made in
      beside other differ events (heard lawful stage (told_of e)) parts.0 new fit.1 parts.2
      ∙ beside_step ask brick stage e link parts.0 other differ fit.0 parts.1

  begin : (found : Option LaneValue) → HeardSo lawful (Open (Asked 0)) found found
  begin None = (tt, refl)
  begin (Some lane) = record { before = []; rest = lane.queue; queue_is = refl; are_strays = All-nil (IsUnlawful lawful); so_many = refl; few = omega arith; leaves = refl }

  ended : (outcome : Outcome A) (found left : Option LaneValue) → HeardSo lawful (Heard outcome) found left → HeardAt lawful outcome found left
  ended outcome None left h = h
  ended outcome (Some lane) left h = h

  pub heard_over : (events : List StubEvent) (outcome : Outcome A) (old new : ScriptValue) → Ran (ear_machine brick lawful) ScriptMakes ask (Open (Asked 0)) old events (Heard outcome) new → HeardOver lawful brick outcome old new
  heard_over events outcome old new ran =
      let P : Ear A → Type 0 = λ ear. HeardSo lawful ear (lane_of old brick.0) (lane_of new brick.0) in
      record {
        of_brick = ended outcome (lane_of old brick.0) (lane_of new brick.0) (subst P (sym ran.ends) (run events (Open (Asked 0)) (lane_of old brick.0) old new (begin (lane_of old brick.0)) ran.fitting ran.made));
        of_others = λ other differ. beside other differ events (Open (Asked 0)) old new ran.fitting ran.made;
      }
