-- Hearing a brick goes on by the rule after each event.
use Rattle.std.proofs.Common.{arith, ◌≡◌, ◌∙◌, ap, sym, refl, ℕ, suc, ◌+◌, ◌-◌, ◌<◌, ◌≤◌, Bool, true, false, IsTrue, nat_lt, if◌then◌else◌, List, [], ◌∷◌, ◌++◌, length, map, drop, All, Option, Some, None, append_assoc, append-nil, IsSome}
use Rattle.std.specs.List.{slice_set, fold}
use Rattle.std.specs.Option.{option_map, option_and_then}
use Rattle.std.proofs.lemmas.Bool.{ltb-true, ltb-false}
use Rattle.std.proofs.lemmas.List.{length_push, set-set}
use Rattle.std.proofs.lemmas.List.Elements.{All-nil, All-push}
use Rattle.crash_base.specs.declared.numbers.BrickNo.{BrickNo}
use Rattle.outside.specs.Link.{Made}
use Rattle.outside.specs.Faults.{counted}
use Rattle.ssm_frames.specs.declared.frame.Frame.{Frame}
use Rattle.ssm_frames.specs.Reading.{decode_of}
use Rattle.ssm_stub.specs.declared.ear.TheConstants.{MAX_STRAYS}
use Rattle.ssm_stub.specs.declared.ear.Stage.TheVariants.{Unasked, Asked}
use Rattle.ssm_stub.specs.declared.ear.Outcome.{Outcome}
use Rattle.ssm_stub.specs.declared.ear.Outcome.TheVariants.{Answered, Silent, Strayed}
use Rattle.ssm_stub.specs.declared.ear.Ear.{Ear}
use Rattle.ssm_stub.specs.declared.ear.Ear.TheVariants.{Open, Heard}
use Rattle.ssm_stub.specs.declared.event.StubEvent.{StubEvent}
use Rattle.ssm_stub.specs.declared.event.StubEvent.TheVariants as event
use Rattle.ssm_stub.specs.Ears.{after_frame, heard, heard_on}
use Rattle.ssm_stub.specs.Turns.{wanted_of}
use Rattle.ssm_stub.specs.Runs.{told_of, fits, Fits, call_of, calls, Ran}
use Rattle.ssm_stub.specs.Hearing.{ear_machine}
use Rattle.link_lanes.specs.Lanes.{lane_of, with_lane, more_unknown, IsFirst}
use Rattle.link_lanes.specs.Tallies.{lane_after}
use Rattle.link_memory.proofs.Steps.{made_split}
use Rattle.link_memory.specs.Lane.{LaneValue, asked, given, silent, counted_times}
use Rattle.link_memory.specs.Rule.{Hearing, heard_from}
use Rattle.link_memory.specs.Leaving.{IsUnlawful, after_hearing, silences_after}
use Rattle.link_memory.specs.InOrder.{Over, link_after, heard_at, heard_over, asked_at, asked_over, to_ear}
use Rattle.link_memory.specs.Script.{ScriptValue, hushed_by, IsQuiet, Gives, ScriptMakes}
use Rattle.link_memory.proofs.Queues.{rule_answers, rule_silent, rule_strays}

-- what is heard behind a frame, by its verdict and by whether one more stray leaves the brick without
-- outcome
abbrev behind : {A : Type 0} → Option A → Bool → List Frame → Hearing A → Hearing A
behind (Some reply) more queue rest = record { outcome = Answered reply; left = queue }
behind None true queue rest = rest
behind None false queue rest = record { outcome = Strayed; left = queue }

-- what is heard from a queue after so many strays came
abbrev pub heard_past : {A : Type 0} → (Frame → Option A) → ℕ → List Frame → Hearing A
heard_past lawful strays [] = record { outcome = Silent; left = [] }
heard_past lawful strays (frame ∷ queue) = behind (lawful frame) (nat_lt strays (MAX_STRAYS - 1)) queue (heard_past lawful (strays + 1) queue)

-- it is the rule
module _ {A : Type 0} (lawful : Frame → Option A) where
  ruled : (queue before : List Frame) (strays : ℕ) → All (IsUnlawful lawful) before → length before ≡ strays → strays < MAX_STRAYS → heard_from lawful (before ++ queue) ≡ heard_past lawful strays queue
  ruled [] before strays all many few = ap (heard_from lawful) (append-nil before) ∙ rule_silent lawful before all (omega arith)
  ruled (frame ∷ queue) before strays all many few = judged (λ more unlawful long below. ruled queue more (strays + 1) unlawful long below) (lawful frame) refl (nat_lt strays (MAX_STRAYS - 1)) refl where
    judged : ((more : List Frame) → All (IsUnlawful lawful) more → length more ≡ strays + 1 → strays + 1 < MAX_STRAYS → heard_from lawful (more ++ queue) ≡ heard_past lawful (strays + 1) queue) → (verdict : Option A) → lawful frame ≡ verdict → (more : Bool) → nat_lt strays (MAX_STRAYS - 1) ≡ more → heard_from lawful (before ++ frame ∷ queue) ≡ behind verdict more queue (heard_past lawful (strays + 1) queue)
    judged later (Some reply) is more e = rule_answers lawful before frame queue reply all (omega arith) is
    judged later None is true e =
        ap (heard_from lawful) (sym (append_assoc before (frame ∷ []) queue))
        ∙ later (before ++ frame ∷ []) (All-push (IsUnlawful lawful) before frame all is)
        (let l = length_push before frame in omega arith) (let l = ltb-true strays (MAX_STRAYS - 1) e in omega arith)
    judged later None is false e =
        ap (heard_from lawful) (sym (append_assoc before (frame ∷ []) queue))
        ∙ rule_strays lawful (before ++ frame ∷ []) queue (All-push (IsUnlawful lawful) before frame all is)
        (let l = ltb-false strays (MAX_STRAYS - 1) e in let m = length_push before frame in omega arith)

  pub by_rule : (queue : List Frame) → heard_from lawful queue ≡ heard_past lawful 0 queue
  by_rule queue = ruled queue [] 0 (All-nil (IsUnlawful lawful)) refl (omega arith)

  -- no more is left than was there
  fewer : (strays : ℕ) (queue : List Frame) → length (heard_past lawful strays queue).left ≤ length queue
  fewer strays [] = omega arith
  fewer strays (frame ∷ queue) = go (fewer (strays + 1) queue) (lawful frame) (nat_lt strays (MAX_STRAYS - 1)) where
    go : length (heard_past lawful (strays + 1) queue).left ≤ length queue → (verdict : Option A) (more : Bool) → length (behind verdict more queue (heard_past lawful (strays + 1) queue)).left ≤ length (frame ∷ queue)
    go h (Some reply) more = omega arith
    go h None true = omega arith
    go h None false = omega arith

-- what is heard of a brick whose lane is this, after so many strays
abbrev pub past_at : {A : Type 0} → (Frame → Option A) → BrickNo → ℕ → Option LaneValue → ScriptValue → Over (Outcome A)
past_at lawful brick strays None link = record { heard = Silent; link = hushed_by brick link }
past_at lawful brick strays (Some lane) link = record { heard = (heard_past lawful strays lane.queue).outcome; link = link_after (heard_past lawful strays lane.queue) brick lane link }

-- what is heard of a brick of which this was heard
abbrev pub heard_rest : {A : Type 0} → (Frame → Option A) → BrickNo → Ear A → ScriptValue → Over (Ear A)
heard_rest lawful brick (Open Unasked) link = record { heard = Open Unasked; link = link }
heard_rest lawful brick (Open (Asked strays)) link = to_ear (past_at lawful brick strays (lane_of link brick.0) link)
heard_rest lawful brick (Heard outcome) link = record { heard = Heard outcome; link = link }

pub begun : {A : Type 0} (lawful : Frame → Option A) (brick : BrickNo) (link : ScriptValue) → heard_rest lawful brick (Open (Asked 0)) link ≡ to_ear (heard_over lawful brick link)
begun {A} lawful brick link = ap to_ear (go (lane_of link brick.0)) where
  go : (found : Option LaneValue) → past_at lawful brick 0 found link ≡ heard_at lawful brick found link
  go None = refl
  go (Some lane) = ap (λ (h : Hearing A). record { heard = h.outcome; link = link_after h brick lane link }) (sym (by_rule lawful lane.queue))

-- what was heard of a brick after a frame, by its verdict and by whether one more stray leaves it without
-- outcome
abbrev pub after_frame_by : {A : Type 0} → ℕ → Option A → Bool → Ear A
after_frame_by strays (Some reply) more = Heard (Answered reply)
after_frame_by strays None more = if more then Open (Asked (strays + 1)) else Heard Strayed

pub after_frame-by : {A : Type 0} (strays : ℕ) (verdict : Option A) → after_frame (Asked strays) verdict ≡ after_frame_by strays verdict (nat_lt strays (MAX_STRAYS - 1))
after_frame-by strays (Some reply) = refl
after_frame-by strays None = refl

-- the ask
pub ask_step : {A : Type 0} (lawful : Frame → Option A) (ask : List ℕ) (brick : BrickNo) (e : StubEvent) (link mid : ScriptValue) → IsTrue (fits (wanted_of brick Unasked) (told_of e)) → Made ScriptMakes link (call_of ask (wanted_of brick Unasked) e) mid
    → asked_over ask brick link ≡ record { heard = heard lawful Unasked (told_of e); link = mid }
ask_step {A} lawful ask brick event.Sent link mid fit (next, (there, is), end) = go (lane_of link brick.0) refl there where
  go : (found : Option LaneValue) → lane_of link brick.0 ≡ found → IsSome found → asked_at {A = A} ask brick found link ≡ record { heard = Open (Asked 0); link = mid }
  go None here some = absurd cc
  go (Some lane) here some = ap (λ (l : ScriptValue). record { heard = Open (Asked 0); link = l }) (ap (λ o. with_lane link brick.0 (option_map (asked ask) o)) (sym here) ∙ (sym is ∙ end))
ask_step lawful ask brick (event.Frame bytes) link mid fit made = absurd cc
ask_step {A} lawful ask brick event.Silent link mid fit (next, (none, few, is), end) =
    ap (λ o. asked_at {A = A} ask brick o link) none ∙ ap (λ (l : ScriptValue). record { heard = Heard Silent; link = l }) (sym is ∙ end)

module _ {A : Type 0} (lawful : Frame → Option A) (brick : BrickNo) (strays : ℕ) (link : ScriptValue) (lane : LaneValue) (here : lane_of link brick.0 ≡ Some lane) where
  -- the link after this was heard of the lane, with this queue
  abbrev heard_of : List Frame → Hearing A → Over (Ear A)
  heard_of queue h = record {
    heard = Heard h.outcome;
    link = with_lane (record link { hushed = silences_after h.outcome link.hushed; got = counted_times (length queue - length h.left) link.got }) brick.0 (Some (after_hearing h lane));
  }

  -- the link after a frame was taken from the lane
  abbrev taken : ScriptValue
  taken = with_lane (record link { got = counted link.got }) brick.0 (Some (given lane))

  one_taken : (outcome : Outcome A) (frame : Frame) (rest : List Frame) → lane.queue ≡ frame ∷ rest → silences_after outcome link.hushed ≡ link.hushed → silences_after outcome lane.silences ≡ lane.silences
      → heard_of (frame ∷ rest) (record { outcome = outcome; left = rest }) ≡ record { heard = Heard outcome; link = taken }
  one_taken outcome frame rest queue hushed silences =
      let one : length (frame ∷ rest) - length rest ≡ 1 = omega arith in
      let left : rest ≡ drop 1 lane.queue = sym (ap (drop 1) queue) in
      let L : ℕ → ℕ → ℕ → List Frame → Over (Ear A) = λ h n s q. record {
        heard = Heard outcome;
        link = with_lane (record link { hushed = h; got = counted_times n link.got }) brick.0 (Some (record lane { queue = q; silences = s }));
      } in
      ap (λ h. L h (length (frame ∷ rest) - length rest) (silences_after outcome lane.silences) rest) hushed
      ∙ (ap (λ n. L link.hushed n (silences_after outcome lane.silences) rest) one
      ∙ (ap (λ s. L link.hushed 1 s rest) silences
      ∙ ap (λ q. L link.hushed 1 lane.silences q) left))

  here_then : lane_of taken brick.0 ≡ Some (given lane)
  here_then = lane_after link.lanes brick.0 lane (given lane) here

  more_taken : (frame : Frame) (rest : List Frame) → lane.queue ≡ frame ∷ rest → heard_of (frame ∷ rest) (heard_past lawful (strays + 1) rest) ≡ heard_rest lawful brick (Open (Asked (strays + 1))) taken
  more_taken frame rest queue =
      let h = heard_past lawful (strays + 1) rest in
      let fits_in = fewer lawful (strays + 1) rest in
      let one : length (frame ∷ rest) - length h.left ≡ suc (length rest - length h.left) = omega arith in
      let L : ℕ → List LaneValue → Over (Ear A) = λ n lanes. record {
        heard = Heard h.outcome;
        link = record link { hushed = silences_after h.outcome link.hushed; got = counted_times n link.got; lanes = lanes };
      } in
      let R : List Frame → Over (Ear A) = λ q. record {
        heard = Heard (heard_past lawful (strays + 1) q).outcome;
        link = with_lane (record taken { hushed = silences_after (heard_past lawful (strays + 1) q).outcome link.hushed; got = counted_times (length q - length (heard_past lawful (strays + 1) q).left) (counted link.got) }) brick.0 (Some (after_hearing (heard_past lawful (strays + 1) q) (given lane)));
      } in
      ap (λ n. L n (slice_set link.lanes (brick.0 - 1) (after_hearing h lane))) one
      ∙ (ap (L (suc (length rest - length h.left))) (sym (set-set link.lanes (brick.0 - 1) (given lane) (after_hearing h lane)))
      ∙ (ap R (sym (ap (drop 1) queue))
      ∙ ap (λ o. to_ear (past_at lawful brick (strays + 1) o taken)) (sym here_then)))

  -- a frame is the first of the queue
  frame_on : (frame : Frame) (rest : List Frame) → lane.queue ≡ frame ∷ rest → (verdict : Option A) (more : Bool) → heard_of (frame ∷ rest) (behind verdict more rest (heard_past lawful (strays + 1) rest))
      ≡ heard_rest lawful brick (after_frame_by strays verdict more) taken
  frame_on frame rest queue (Some reply) more = one_taken (Answered reply) frame rest queue refl refl
  frame_on frame rest queue None true = more_taken frame rest queue
  frame_on frame rest queue None false = one_taken Strayed frame rest queue refl refl

  -- the first frame was taken
  got : (bytes : List ℕ) (queue : List Frame) → lane.queue ≡ queue → IsFirst bytes queue → heard_of lane.queue (heard_past lawful strays lane.queue) ≡ heard_rest lawful brick (heard lawful (Asked strays) (told_of (event.Frame bytes))) taken
  got bytes [] queue first = absurd first
  got bytes (frame ∷ rest) queue (spelled, back) =
      ap (λ q. heard_of q (heard_past lawful strays q)) queue
      ∙ (frame_on frame rest queue (lawful frame) (nat_lt strays (MAX_STRAYS - 1))
      ∙ (ap (λ ear. heard_rest lawful brick ear taken) (sym (after_frame-by strays (lawful frame)))
      ∙ ap (λ f. heard_rest lawful brick (after_frame (Asked strays) (option_and_then lawful f)) taken) (sym back)))

  -- it was silent
  none_left : lane.queue ≡ [] → heard_of lane.queue (heard_past lawful strays lane.queue) ≡ record { heard = Heard Silent; link = with_lane (record link { hushed = counted link.hushed }) brick.0 (Some (silent lane)) }
  none_left none =
      let L : List Frame → Over (Ear A) = λ q. record {
        heard = Heard Silent;
        link = with_lane (record link { hushed = counted link.hushed }) brick.0 (Some (record lane { queue = q; silences = counted lane.silences }));
      } in
      ap (λ q. heard_of q (heard_past lawful strays q)) none ∙ ap L (sym none)

  as_heard : heard_rest lawful brick (Open (Asked strays)) link ≡ heard_of lane.queue (heard_past lawful strays lane.queue)
  as_heard = ap (λ o. to_ear (past_at lawful brick strays o link)) here

-- a brick that was asked is never unasked again
pub still : {A : Type 0} (lawful : Frame → Option A) (strays : ℕ) (e : StubEvent) → heard lawful (Asked strays) (told_of e) ≡ Open Unasked → ⊥
still lawful strays event.Sent h = cc
still lawful strays (event.Frame bytes) h = by_verdict (option_and_then lawful (decode_of bytes)) (nat_lt strays (MAX_STRAYS - 1)) (sym (after_frame-by strays (option_and_then lawful (decode_of bytes))) ∙ h) where
  by_verdict : {A : Type 0} (verdict : Option A) (more : Bool) → after_frame_by strays verdict more ≡ Open Unasked → ⊥
  by_verdict (Some reply) more k = cc
  by_verdict None true k = cc
  by_verdict None false k = cc
still lawful strays event.Silent h = cc

-- An asked brick goes on by the rule.
pub hear_step : {A : Type 0} (lawful : Frame → Option A) (ask : List ℕ) (brick : BrickNo) (strays : ℕ) (e : StubEvent) (link mid : ScriptValue) → IsTrue (fits (wanted_of brick (Asked strays)) (told_of e)) → Made ScriptMakes link (call_of ask (wanted_of brick (Asked strays)) e) mid
    → heard_rest lawful brick (Open (Asked strays)) link ≡ heard_rest lawful brick (heard lawful (Asked strays) (told_of e)) mid
hear_step lawful ask brick strays event.Sent link mid fit made = absurd cc
hear_step {A} lawful ask brick strays (event.Frame bytes) link mid fit (next, (gives, few, is), end) = go (lane_of link brick.0) refl gives where
  go : (found : Option LaneValue) → lane_of link brick.0 ≡ found → Gives bytes found → heard_rest lawful brick (Open (Asked strays)) link ≡ heard_rest lawful brick (heard lawful (Asked strays) (told_of (event.Frame bytes))) mid
  go None here given_so = absurd given_so
  go (Some lane) here given_so =
      as_heard lawful brick strays link lane here
      ∙ (got lawful brick strays link lane here bytes lane.queue refl given_so
      ∙ ap (heard_rest lawful brick (heard lawful (Asked strays) (told_of (event.Frame bytes))))
      (ap (λ o. with_lane (record link { got = counted link.got }) brick.0 (option_map given o)) (sym here) ∙ (sym is ∙ end)))
hear_step {A} lawful ask brick strays event.Silent link mid fit (next, (quiet, few, is), end) = go (lane_of link brick.0) refl quiet where
  go : (found : Option LaneValue) → lane_of link brick.0 ≡ found → IsQuiet found → heard_rest lawful brick (Open (Asked strays)) link ≡ record { heard = Heard Silent; link = mid }
  go None here none = ap (λ o. to_ear (past_at lawful brick strays o link)) here ∙ ap (λ (l : ScriptValue). record { heard = Heard Silent; link = l }) (sym is ∙ end)
  go (Some lane) here none =
      let left : with_lane (record link { hushed = counted link.hushed }) brick.0 (Some (silent lane)) ≡ hushed_by brick link =
      ap (λ o. more_unknown o (with_lane (record link { hushed = counted link.hushed }) brick.0 (option_map silent o))) (sym here) in
      as_heard lawful brick strays link lane here
      ∙ (none_left lawful brick strays link lane here none
      ∙ ap (λ (l : ScriptValue). record { heard = Heard Silent; link = l }) (left ∙ (sym is ∙ end)))

settled : {A : Type 0} (over : Over (Outcome A)) (outcome : Outcome A) (new : ScriptValue) → to_ear over ≡ record { heard = Heard outcome; link = new } → record { heard = outcome; link = new } ≡ over
settled {A} over outcome new whole =
    let outcomes : Heard over.heard ≡ Heard outcome = ap (λ (o : Over (Ear A)). o.heard) whole in
    let same : outcome ≡ over.heard = cc in
    let links : new ≡ over.link = sym (ap (λ (o : Over (Ear A)). o.link) whole) in
    ap (λ (o : Outcome A). record { heard = o; link = new }) same ∙ ap (λ (l : ScriptValue). record { heard = over.heard; link = l }) links

module _ {A : Type 0} (lawful : Frame → Option A) (ask : List ℕ) (brick : BrickNo) where
  run : (events : List StubEvent) (ear : Ear A) (link new : ScriptValue) → (ear ≡ Open Unasked → ⊥) → Fits (ear_machine brick lawful) ear (map told_of events) → Made ScriptMakes link (calls (ear_machine brick lawful) ask ear events) new
      → heard_rest lawful brick ear link ≡ heard_rest lawful brick (fold (heard_on lawful) ear (map told_of events)) new
  run [] ear link new waits fit made = ap (heard_rest lawful brick ear) made
  run (e ∷ events) (Heard outcome) link new waits fit made = absurd (let first = fit.0 in cc)
  run (e ∷ events) (Open Unasked) link new waits fit made = absurd (waits refl)
  run (e ∷ events) (Open (Asked strays)) link new waits fit made =
      let parts = made_split (call_of ask (wanted_of brick (Asked strays)) e) (calls (ear_machine brick lawful) ask (heard lawful (Asked strays) (told_of e)) events) link new made in
      hear_step lawful ask brick strays e link parts.0 fit.0 parts.1
      ∙ run events (heard lawful (Asked strays) (told_of e)) parts.0 new (still lawful strays e) fit.1 parts.2

  pub rule_over : (events : List StubEvent) (outcome : Outcome A) (old new : ScriptValue) → Ran (ear_machine brick lawful) ScriptMakes ask (Open (Asked 0)) old events (Heard outcome) new → record { heard = outcome; link = new } ≡ heard_over lawful brick old
  rule_over events outcome old new ran =
      let whole : to_ear (heard_over lawful brick old) ≡ record { heard = Heard outcome; link = new } =
      sym (begun lawful brick old) ∙ (run events (Open (Asked 0)) old new (λ e. cc) ran.fitting ran.made
      ∙ ap (λ ear. heard_rest lawful brick ear new) (sym ran.ends)) in
      settled (heard_over lawful brick old) outcome new whole
