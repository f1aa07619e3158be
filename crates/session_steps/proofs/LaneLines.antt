-- What a call of lanes comes to, as the answer of a line.
use Rattle.std.proofs.Common.{◌≡◌, ◌∙◌, refl, sym, ap, subst, ℕ, ◌-◌, Bool, true, false, not, nat_lt, List, [], length, Option, Some, None}
use Rattle.std.specs.Option.{option_map, option_and_then}
use Rattle.brick_store.specs.History.{all_held}
use Rattle.brick_store.specs.declared.event.BrickEvent.{BrickEvent}
use Rattle.send_windows.specs.Passes.{unheard, with_mark, hushed}
use Rattle.send_windows.specs.Windows.{pass_tried, after_pass}
use Rattle.send_windows.specs.declared.pass.Pass.{Pass}
use Rattle.ssm_world.specs.declared.event.WorldEvent.TheVariants.{Crash, Sweep}
use Rattle.ssm_world.specs.Worlds.{history, may_happen}
use Rattle.scenario_text.specs.Answer.{Answer, Refused, Done, refused_if, or_refused, KeepsRefused, answer_of}
use Rattle.scenario_text.specs.declared.answer.LineAnswer.{LineAnswer}
use Rattle.scenario_text.specs.declared.session_line.Freed.{Freed}
use Rattle.scenario_text.specs.declared.session_line.Freed.TheVariants as freed
use Rattle.session_lanes.specs.declared.lanes.HoldAnswer.{HoldAnswer}
use Rattle.session_lanes.specs.Calls.{left_if, more_lost, more_dropped, repeated, brick_crashed, brick_swept, values_of, answer_by, hold_answer, pass_held, pass_freed}
use Rattle.session_lanes.specs.Lane.{LaneState, brick_no, losing, dropping, waiting, reply_made, lane_at}
use Rattle.session_lanes.specs.Lanes.{LanesState, after_event, with_lane}
use Rattle.session_steps.specs.Sessions.{done_or_refused, freed_pass, holds, mark_of}
use Rattle.session_steps.specs.Texts.{values_text, hold_text}
use Rattle.session_steps.specs.declared.sessions.TheConstants.{MAX_MOMENT}

-- done with what a call left, if it was done
abbrev done_with : Option LanesState → Answer LanesState
done_with None = Refused
done_with (Some st) = Done st []

told : (a : LineAnswer) (done : Bool) (new : LanesState) (o : Option LanesState) → a ≡ done_or_refused done → left_if done new ≡ o → answer_of a new ≡ done_with o
told a done new o is left = ap (λ x. answer_of x new) is ∙ go done left where
  go : (b : Bool) → left_if b new ≡ o → answer_of (done_or_refused b) new ≡ done_with o
  go true e = ap done_with e
  go false e = ap done_with e

-- a call that was not done leaves the lanes as they were
pub keeps : (a : LineAnswer) (done : Bool) (old new : LanesState) → a ≡ done_or_refused done → (done ≡ false → new ≡ old) → KeepsRefused a old new
keeps a done old new is same = subst (λ (x : LineAnswer). KeepsRefused x old new) (sym is) (go done same) where
  go : (b : Bool) → (b ≡ false → new ≡ old) → KeepsRefused (done_or_refused b) old new
  go true s = tt
  go false s = s refl

with_map : {A : Type 0} (o : Option A) (f : A → LanesState) → done_with (option_map f o) ≡ or_refused o (λ x. Done (f x) [])
with_map None f = refl
with_map (Some x) f = refl

with_if : (b : Bool) (st : LanesState) → done_with (left_if b st) ≡ refused_if (not b) (Done st [])
with_if true st = refl
with_if false st = refl

with_then : {A : Type 0} (o : Option A) (f : A → Option LanesState) → done_with (option_and_then f o) ≡ or_refused o (λ x. done_with (f x))
with_then None f = refl
with_then (Some x) f = refl

pub lost : (a : LineAnswer) (done : Bool) (old new : LanesState) (brick more : ℕ) → a ≡ done_or_refused done → left_if done new ≡ more_lost old brick more
    → answer_of a new ≡ or_refused (lane_at old.lanes brick) (λ lane. Done (with_lane old brick (losing more lane)) [])
lost a done old new brick more is left = told a done new (more_lost old brick more) is left ∙ with_map (lane_at old.lanes brick) (λ lane. with_lane old brick (losing more lane))

pub muted : (a : LineAnswer) (done : Bool) (old new : LanesState) (brick more : ℕ) → a ≡ done_or_refused done → left_if done new ≡ more_dropped old brick more
    → answer_of a new ≡ or_refused (lane_at old.lanes brick) (λ lane. Done (with_lane old brick (dropping more lane)) [])
muted a done old new brick more is left = told a done new (more_dropped old brick more) is left ∙ with_map (lane_at old.lanes brick) (λ lane. with_lane old brick (dropping more lane))

pub repeats : (a : LineAnswer) (done : Bool) (old new : LanesState) (brick number : ℕ) → a ≡ done_or_refused done → left_if done new ≡ repeated old brick number
    → answer_of a new ≡ or_refused (lane_at old.lanes brick) (λ lane. or_refused (reply_made lane number) (λ packet. Done (with_lane old brick (waiting packet lane)) []))
repeats a done old new brick number is left = told a done new (repeated old brick number) is left ∙ go (lane_at old.lanes brick) where
  change : LaneState → Option LanesState
  change lane = option_map (λ (packet : ℕ). with_lane old brick (waiting packet lane)) (reply_made lane number)

  go : (o : Option LaneState) → done_with (option_and_then change o) ≡ or_refused o (λ lane. or_refused (reply_made lane number) (λ packet. Done (with_lane old brick (waiting packet lane)) []))
  go None = refl
  go (Some lane) = with_map (reply_made lane number) (λ packet. with_lane old brick (waiting packet lane))

pub crashes : (a : LineAnswer) (done : Bool) (old new : LanesState) (brick : ℕ) → a ≡ done_or_refused done → left_if done new ≡ brick_crashed old brick
    → answer_of a new ≡ or_refused (lane_at old.lanes brick) (λ lane. refused_if (not (may_happen old.world (Crash (brick_no brick)))) (Done (after_event old (Crash (brick_no brick))) []))
crashes a done old new brick is left = told a done new (brick_crashed old brick) is left ∙ go (lane_at old.lanes brick) where
  may : Bool
  may = may_happen old.world (Crash (brick_no brick))

  later : LanesState
  later = after_event old (Crash (brick_no brick))

  go : (o : Option LaneState) → done_with (option_and_then (λ (lane : LaneState). left_if may later) o) ≡ or_refused o (λ lane. refused_if (not may) (Done later []))
  go None = refl
  go (Some lane) = with_if may later

pub sweeps : (a : LineAnswer) (done : Bool) (old new : LanesState) (brick moment : ℕ) → nat_lt MAX_MOMENT moment ≡ false → a ≡ done_or_refused done
    → left_if done new ≡ brick_swept old brick (record { 0 = moment })
    → answer_of a new ≡ or_refused (lane_at old.lanes brick) (λ lane. refused_if (nat_lt MAX_MOMENT moment) (Done (after_event old (Sweep (brick_no brick) (record { 0 = moment }))) []))
sweeps a done old new brick moment in_time is left =
    told a done new (brick_swept old brick (record { 0 = moment })) is left
    ∙ with_map (lane_at old.lanes brick) (λ lane. after_event old (Sweep (brick_no brick) (record { 0 = moment })))
    ∙ ap (λ b. or_refused (lane_at old.lanes brick) (λ lane. refused_if b (Done (after_event old (Sweep (brick_no brick) (record { 0 = moment }))) []))) (sym in_time)

pub too_late : (old : LanesState) (brick moment : ℕ) → nat_lt MAX_MOMENT moment ≡ true
    → Refused ≡ or_refused (lane_at old.lanes brick) (λ lane. refused_if (nat_lt MAX_MOMENT moment) (Done (after_event old (Sweep (brick_no brick) (record { 0 = moment }))) []))
too_late old brick moment late = go (lane_at old.lanes brick) ∙ ap (λ b. or_refused (lane_at old.lanes brick) (λ lane. refused_if b (Done (after_event old (Sweep (brick_no brick) (record { 0 = moment }))) []))) (sym late) where
  go : (o : Option LaneState) → Refused ≡ or_refused o (λ lane. refused_if true (Done (after_event old (Sweep (brick_no brick) (record { 0 = moment }))) []))
  go None = refl
  go (Some lane) = refl

valued : (st : LanesState) (brick : ℕ) → or_refused (values_of st brick) (λ n. Done st (values_text brick n))
    ≡ or_refused (lane_at st.lanes brick) (λ lane. or_refused (history st.world (brick_no brick)) (λ h. Done st (values_text brick (length (all_held h)))))
valued st brick = go (lane_at st.lanes brick) where
  count : Option (List BrickEvent) → Option ℕ
  count h = option_map (λ (events : List BrickEvent). length (all_held events)) h

  kept : (h : Option (List BrickEvent)) → or_refused (count h) (λ n. Done st (values_text brick n)) ≡ or_refused h (λ events. Done st (values_text brick (length (all_held events))))
  kept None = refl
  kept (Some h) = refl

  go : (o : Option LaneState) → or_refused (option_and_then (λ (lane : LaneState). count (history st.world (brick_no brick))) o) (λ n. Done st (values_text brick n))
      ≡ or_refused o (λ lane. or_refused (history st.world (brick_no brick)) (λ h. Done st (values_text brick (length (all_held h)))))
  go None = refl
  go (Some lane) = kept (history st.world (brick_no brick))

pub values_none : (st : LanesState) (brick : ℕ) → None ≡ values_of st brick
    → Refused ≡ or_refused (lane_at st.lanes brick) (λ lane. or_refused (history st.world (brick_no brick)) (λ h. Done st (values_text brick (length (all_held h)))))
values_none st brick none = ap (λ o. or_refused o (λ n. Done st (values_text brick n))) none ∙ valued st brick

pub values_some : (st : LanesState) (brick n : ℕ) (text : List ℕ) → Some n ≡ values_of st brick → text ≡ values_text brick n
    → Done st text ≡ or_refused (lane_at st.lanes brick) (λ lane. or_refused (history st.world (brick_no brick)) (λ h. Done st (values_text brick (length (all_held h)))))
values_some st brick n text some is = ap (Done st) is ∙ ap (λ o. or_refused o (λ m. Done st (values_text brick m))) some ∙ valued st brick

held : (old new : LanesState) (brick : ℕ) → new ≡ pass_held old brick (lane_at old.lanes brick)
    → or_refused (hold_answer old brick) (λ h. Done new (hold_text brick h)) ≡ or_refused (lane_at old.lanes brick) (λ lane. holds old brick lane (pass_tried old.windows (brick_no brick)))
held old new brick is = ap (λ (st : LanesState). or_refused (hold_answer old brick) (λ h. Done st (hold_text brick h))) is ∙ go (lane_at old.lanes brick) where
  pass : Option Pass
  pass = pass_tried old.windows (brick_no brick)

  go : (o : Option LaneState) → or_refused (option_map (λ (lane : LaneState). answer_by old.windows (brick_no brick) pass) o) (λ h. Done (pass_held old brick o) (hold_text brick h)) ≡ or_refused o (λ lane. holds old brick lane pass)
  go None = refl
  go (Some lane) = refl

pub held_none : (old new : LanesState) (brick : ℕ) → None ≡ hold_answer old brick → new ≡ pass_held old brick (lane_at old.lanes brick)
    → Refused ≡ or_refused (lane_at old.lanes brick) (λ lane. holds old brick lane (pass_tried old.windows (brick_no brick)))
held_none old new brick none is = ap (λ o. or_refused o (λ h. Done new (hold_text brick h))) none ∙ held old new brick is

pub held_some : (old new : LanesState) (brick : ℕ) (answer : HoldAnswer) (text : List ℕ) → Some answer ≡ hold_answer old brick → new ≡ pass_held old brick (lane_at old.lanes brick) → text ≡ hold_text brick answer
    → Done new text ≡ or_refused (lane_at old.lanes brick) (λ lane. holds old brick lane (pass_tried old.windows (brick_no brick)))
held_some old new brick answer text some is written = ap (Done new) written ∙ ap (λ o. or_refused o (λ h. Done new (hold_text brick h))) some ∙ held old new brick is

-- where there is no brick, nothing changes
pub kept_none : (old new : LanesState) (brick : ℕ) → None ≡ hold_answer old brick → new ≡ pass_held old brick (lane_at old.lanes brick) → new ≡ old
kept_none old new brick none is = is ∙ go (lane_at old.lanes brick) none where
  go : (o : Option LaneState) → None ≡ option_map (λ (lane : LaneState). answer_by old.windows (brick_no brick) (pass_tried old.windows (brick_no brick))) o → pass_held old brick o ≡ old
  go None e = refl
  go (Some lane) e = absurd (cc)

marked : (brick : ℕ) (how : Freed) → hushed (with_mark (unheard (brick_no brick)) (mark_of how)) ≡ freed_pass brick how
marked brick freed.Answered = refl
marked brick freed.Silent = refl

pub frees : (a : LineAnswer) (done : Bool) (old new : LanesState) (brick : ℕ) (how : Freed) → a ≡ done_or_refused done → left_if done new ≡ pass_freed old brick (mark_of how)
    → answer_of a new ≡ or_refused (lane_at old.lanes brick) (λ lane. refused_if (not (nat_lt 0 lane.held))
    (Done (with_lane (record old { windows = after_pass old.windows (freed_pass brick how) }) brick (record lane { held = lane.held - 1 })) []))
frees a done old new brick how is left = told a done new (pass_freed old brick (mark_of how)) is left ∙ go (lane_at old.lanes brick) where
  later : Pass → LaneState → LanesState
  later pass lane = with_lane (record old { windows = after_pass old.windows pass }) brick (record lane { held = lane.held - 1 })

  go : (o : Option LaneState) → done_with (option_and_then (λ (lane : LaneState). left_if (nat_lt 0 lane.held) (later (hushed (with_mark (unheard (brick_no brick)) (mark_of how))) lane)) o)
      ≡ or_refused o (λ lane. refused_if (not (nat_lt 0 lane.held)) (Done (later (freed_pass brick how) lane) []))
  go None = refl
  go (Some lane) = with_if (nat_lt 0 lane.held) (later (hushed (with_mark (unheard (brick_no brick)) (mark_of how))) lane) ∙ ap (λ (pass : Pass). refused_if (not (nat_lt 0 lane.held)) (Done (later pass lane) [])) (marked brick how)
