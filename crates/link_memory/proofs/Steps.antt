-- What one call of a link makes of the lane of the brick that is asked, and of the others.
use Rattle.std.proofs.Common.{arith, ◌≡◌, ◌∙◌, ap, sym, refl, subst, ℕ, ◌+◌, ◌-◌, ◌<◌, Bool, true, false, IsTrue, nat_lt, if◌then◌else◌, List, [], ◌∷◌, ◌++◌, length, All, Option, Some, None, append_assoc, append-nil, rules, IsSome}
use Rattle.std.specs.Option.{option_map, option_and_then}
use Rattle.std.proofs.lemmas.Bool.{ltb-true, ltb-false}
use Rattle.std.proofs.lemmas.List.{length_push}
use Rattle.std.proofs.lemmas.List.Elements.{All-nil, All-push}
use Rattle.crash_base.specs.declared.numbers.BrickNo.{BrickNo}
use Rattle.outside.specs.Link.{Made}
use Rattle.outside.specs.Faults.{counted}
use Rattle.outside.specs.declared.link.LinkEvent.{LinkEvent}
use Rattle.outside.specs.declared.link.LinkEvent.TheVariants.{Gets, HearsSilence}
use Rattle.ssm_frames.specs.declared.frame.Frame.{Frame}
use Rattle.ssm_frames.specs.Reading.{decode_of}
use Rattle.ssm_stub.specs.declared.ear.TheConstants.{MAX_STRAYS}
use Rattle.ssm_stub.specs.declared.ear.Stage.{Stage}
use Rattle.ssm_stub.specs.declared.ear.Stage.TheVariants.{Unasked, Asked}
use Rattle.ssm_stub.specs.declared.ear.Outcome.TheVariants.{Answered, Silent, Strayed}
use Rattle.ssm_stub.specs.declared.ear.Ear.{Ear}
use Rattle.ssm_stub.specs.declared.ear.Ear.TheVariants.{Open, Heard}
use Rattle.ssm_stub.specs.declared.event.StubEvent.{StubEvent}
use Rattle.ssm_stub.specs.declared.event.StubEvent.TheVariants as event
use Rattle.ssm_stub.specs.Ears.{after_frame, heard}
use Rattle.ssm_stub.specs.Turns.{wanted_of}
use Rattle.ssm_stub.specs.Runs.{told_of, fits, call_of}
use Rattle.link_lanes.specs.Lanes.{lane_of, with_lane, more_unknown, IsFirst}
use Rattle.link_lanes.specs.Tallies.{lane_after, lane_beside, own_lane, other_lane}
use Rattle.link_memory.specs.Lane.{LaneValue, asked, given, silent}
use Rattle.link_memory.specs.Rule.{Hearing, heard_from}
use Rattle.link_memory.specs.Leaving.{after_hearing, IsUnlawful, Taken, HeardByRule, LeftLane, Left}
use Rattle.link_memory.specs.Script.{ScriptValue, hushed_by, given_by, IsQuiet, Gives, ScriptMakes}
use Rattle.link_memory.proofs.Queues.{rule_answers, rule_silent, rule_strays}

pub own_hushed : (link : ScriptValue) (brick : BrickNo) → lane_of (hushed_by brick link) brick.0 ≡ option_map silent (lane_of link brick.0)
own_hushed link brick = go (lane_of link brick.0) refl where
  go : (found : Option LaneValue) → lane_of link brick.0 ≡ found
      → lane_of (more_unknown found (with_lane (record link { hushed = counted link.hushed }) brick.0 (option_map silent found))) brick.0 ≡ option_map silent found
  go None h = h
  go (Some lane) h = lane_after link.lanes brick.0 lane (silent lane) h

pub other_hushed : (link : ScriptValue) (brick : BrickNo) (other : ℕ) → (brick.0 ≡ other → ⊥) → lane_of (hushed_by brick link) other ≡ lane_of link other
other_hushed link brick other differ = go (lane_of link brick.0) refl where
  go : (found : Option LaneValue) → lane_of link brick.0 ≡ found
      → lane_of (more_unknown found (with_lane (record link { hushed = counted link.hushed }) brick.0 (option_map silent found))) other ≡ lane_of link other
  go None h = refl
  go (Some lane) h = lane_beside link.lanes brick.0 other lane (silent lane) h differ

-- what was heard of an asked brick
abbrev pub Progress : {A : Type 0} → (Frame → Option A) → Ear A → LaneValue → Option LaneValue → Type 0
Progress lawful (Open Unasked) lane left = ⊥
Progress lawful (Open (Asked strays)) lane left = Taken lawful strays lane left
Progress lawful (Heard outcome) lane left = HeardByRule lawful outcome lane left

-- what the rule hears
by_rule : {A : Type 0} (lawful : Frame → Option A) (lane : LaneValue) (left : Option LaneValue) (hearing : Hearing A) → heard_from lawful lane.queue ≡ hearing → left ≡ Some (after_hearing hearing lane) → HeardByRule lawful hearing.outcome lane left
by_rule lawful lane left hearing is leaves = record {
  hears = sym (ap (λ h. h.outcome) is);
  leaves = leaves ∙ sym (ap (λ h. Some (after_hearing h lane)) is);
}

module _ {A : Type 0} (lawful : Frame → Option A) (strays : ℕ) (lane : LaneValue) (before : List Frame) (all : All (IsUnlawful lawful) before) (many : length before ≡ strays) (few : strays < MAX_STRAYS) where
  -- the lane after a frame was taken that is this lawful reply or none
  judged : (verdict : Option A) (frame : Frame) (rest : List Frame) (left : Option LaneValue) → lawful frame ≡ verdict → lane.queue ≡ before ++ frame ∷ rest → left ≡ Some (record lane { queue = rest }) → Progress lawful (after_frame (Asked strays) verdict) lane left
  judged (Some reply) frame rest left is queue leaves =
      by_rule lawful lane left (record { outcome = Answered reply; left = rest })
      (ap (heard_from lawful) queue ∙ rule_answers lawful before frame rest reply all (omega arith) is) leaves
  judged None frame rest left is queue leaves = go (nat_lt strays (MAX_STRAYS - 1)) refl where
    queue_on : lane.queue ≡ (before ++ frame ∷ []) ++ rest
    queue_on = queue ∙ sym (append_assoc before (frame ∷ []) rest)

    all_on : All (IsUnlawful lawful) (before ++ frame ∷ [])
    all_on = All-push (IsUnlawful lawful) before frame all is

    go : (more : Bool) → nat_lt strays (MAX_STRAYS - 1) ≡ more → Progress lawful (if more then Open (Asked (strays + 1)) else Heard Strayed) lane left
    go true below = record {
      before = before ++ frame ∷ [];
      rest = rest;
      queue_is = queue_on;
      are_strays = all_on;
      so_many = (let l = length_push before frame in omega arith);
      few = (let l = ltb-true strays (MAX_STRAYS - 1) below in omega arith);
      leaves = leaves;
    }
    go false above =
        by_rule lawful lane left (record { outcome = Strayed; left = rest })
        (ap (heard_from lawful) queue_on ∙ rule_strays lawful (before ++ frame ∷ []) rest all_on (let l = ltb-false strays (MAX_STRAYS - 1) above in let m = length_push before frame in omega arith)) leaves

  -- the lane after its first waiting reply was received
  got : (bytes : List ℕ) (rest : List Frame) (link mid : ScriptValue) (brick : BrickNo) → lane.queue ≡ before ++ rest → lane_of link brick.0 ≡ Some (record lane { queue = rest }) → IsFirst bytes rest → mid ≡ given_by brick link → Progress lawful (after_frame (Asked strays) (option_and_then lawful (decode_of bytes))) lane (lane_of mid brick.0)
  got bytes [] link mid brick queue here gives is = absurd gives
  got bytes (frame ∷ rest) link mid brick queue here (spelled, back) is =
      let leaves : lane_of mid brick.0 ≡ Some (record lane { queue = rest }) =
      ap (λ l. lane_of l brick.0) is ∙ (own_lane (record link { got = counted link.got }) brick given ∙ ap (option_map given) here) in
      let P : Option A → Type 0 = λ verdict. Progress lawful (after_frame (Asked strays) verdict) lane (lane_of mid brick.0) in
      subst P (sym (ap (option_and_then lawful) back)) (judged (lawful frame) frame rest (lane_of mid brick.0) refl queue leaves)

  -- the lane after it was silent
  hushed : (rest : List Frame) (link mid : ScriptValue) (brick : BrickNo) → lane.queue ≡ before ++ rest → lane_of link brick.0 ≡ Some (record lane { queue = rest }) → rest ≡ [] → mid ≡ hushed_by brick link → HeardByRule lawful Silent lane (lane_of mid brick.0)
  hushed rest link mid brick queue here none is =
      let leaves : lane_of mid brick.0 ≡ Some (record lane { queue = []; silences = counted lane.silences }) =
      ap (λ l. lane_of l brick.0) is ∙ (own_hushed link brick ∙ (ap (option_map silent) here
      ∙ ap (λ (xs : List Frame). Some (record lane { queue = xs; silences = counted lane.silences })) none)) in
      let whole : lane.queue ≡ before = queue ∙ (ap (λ xs. before ++ xs) none ∙ append-nil before) in
      by_rule lawful lane (lane_of mid brick.0) (record { outcome = Silent; left = [] })
      (ap (heard_from lawful) whole ∙ rule_silent lawful before all (omega arith)) leaves

-- what a frame of the brick makes of its lane
pub frame_step : {A : Type 0} (lawful : Frame → Option A) (strays : ℕ) (lane : LaneValue) (brick : BrickNo) (bytes : List ℕ) (link mid : ScriptValue) → Taken lawful strays lane (lane_of link brick.0) → ScriptMakes link (Gets brick bytes) mid → Progress lawful (after_frame (Asked strays) (option_and_then lawful (decode_of bytes))) lane (lane_of mid brick.0)
frame_step lawful strays lane brick bytes link mid t (gives, few, is) =
    let P : Option LaneValue → Type 0 = λ o. Gives bytes o in
    got lawful strays lane t.before t.are_strays t.so_many t.few bytes t.rest link mid brick t.queue_is t.leaves (subst P t.leaves gives) is

-- what a silence of the brick makes of its lane
pub silence_step : {A : Type 0} (lawful : Frame → Option A) (strays : ℕ) (lane : LaneValue) (brick : BrickNo) (link mid : ScriptValue) → Taken lawful strays lane (lane_of link brick.0) → ScriptMakes link (HearsSilence brick) mid → HeardByRule lawful Silent lane (lane_of mid brick.0)
silence_step lawful strays lane brick link mid t (quiet, fit, is) =
    let P : Option LaneValue → Type 0 = λ o. IsQuiet o in
    hushed lawful strays lane t.before t.are_strays t.so_many t.few t.rest link mid brick t.queue_is t.leaves (subst P t.leaves quiet) is

pub no_lane : (found : Option LaneValue) → found ≡ None → IsSome found → ⊥
no_lane None h there = search rules
no_lane (Some lane) h there = absurd cc

-- what was heard of an asked brick, of whose lane this was left
of_asked : {A : Type 0} (lawful : Frame → Option A) (ask : List ℕ) (ear : Ear A) (lane : LaneValue) (left : Option LaneValue) → Progress lawful ear (asked ask lane) left → LeftLane lawful ask ear lane left
of_asked lawful ask (Open Unasked) lane left h = absurd h
of_asked lawful ask (Open (Asked strays)) lane left h = h
of_asked lawful ask (Heard outcome) lane left h = h

-- what one call makes of the lane of the brick that is asked
pub own_step : {A : Type 0} (lawful : Frame → Option A) (ask : List ℕ) (brick : BrickNo) (stage : Stage) (e : StubEvent) (base : Option LaneValue) (link mid : ScriptValue)
    → Left lawful ask (Open stage) base (lane_of link brick.0) → IsTrue (fits (wanted_of brick stage) (told_of e)) → Made ScriptMakes link (call_of ask (wanted_of brick stage) e) mid
    → Left lawful ask (heard lawful stage (told_of e)) base (lane_of mid brick.0)
own_step lawful ask brick Unasked event.Sent None link mid before fit (next, (there, is), end) = absurd (no_lane (lane_of link brick.0) before there)
own_step lawful ask brick Unasked event.Sent (Some lane) link mid before fit (next, (there, is), end) = record {
  before = [];
  rest = (asked ask lane).queue;
  queue_is = refl;
  are_strays = All-nil (IsUnlawful lawful);
  so_many = refl;
  few = omega arith;
  leaves = ap (λ l. lane_of l brick.0) (sym end ∙ is) ∙ (own_lane link brick (asked ask) ∙ ap (option_map (asked ask)) before);
}
own_step lawful ask brick Unasked (event.Frame bytes) base link mid before fit made = absurd cc
own_step lawful ask brick Unasked event.Silent None link mid before fit (next, (none, few, is), end) =
    (refl, ap (λ l. lane_of l brick.0) (sym end ∙ is) ∙ (own_hushed link brick ∙ ap (option_map silent) before))
own_step lawful ask brick Unasked event.Silent (Some lane) link mid before fit (next, (none, few, is), end) = absurd (let e : Some lane ≡ None = sym before ∙ none in cc)
own_step lawful ask brick (Asked strays) event.Sent base link mid before fit made = absurd cc
own_step lawful ask brick (Asked strays) (event.Frame bytes) None link mid before fit made = absurd before
own_step lawful ask brick (Asked strays) event.Silent None link mid before fit made = absurd before
own_step {A} lawful ask brick (Asked strays) (event.Frame bytes) (Some lane) link mid before fit (next, made, end) =
    (let P : ScriptValue → Type 0 = λ l. LeftLane lawful ask (after_frame (Asked strays) (option_and_then lawful (decode_of bytes))) lane (lane_of l brick.0) in
    subst P end (of_asked lawful ask (after_frame (Asked strays) (option_and_then lawful (decode_of bytes))) lane (lane_of next brick.0) (frame_step lawful strays (asked ask lane) brick bytes link next before made)))
own_step lawful ask brick (Asked strays) event.Silent (Some lane) link mid before fit (next, made, end) =
    (let P : ScriptValue → Type 0 = λ l. HeardByRule lawful Silent (asked ask lane) (lane_of l brick.0) in subst P end (silence_step lawful strays (asked ask lane) brick link next before made))

-- and of the others
pub beside_step : (ask : List ℕ) (brick : BrickNo) (stage : Stage) (e : StubEvent) (link mid : ScriptValue) (other : ℕ) → (brick.0 ≡ other → ⊥) → IsTrue (fits (wanted_of brick stage) (told_of e)) → Made ScriptMakes link (call_of ask (wanted_of brick stage) e) mid → lane_of mid other ≡ lane_of link other
beside_step ask brick Unasked event.Sent link mid other differ fit (next, (there, is), end) = ap (λ l. lane_of l other) (sym end ∙ is) ∙ other_lane link brick (asked ask) other differ
beside_step ask brick Unasked (event.Frame bytes) link mid other differ fit made = absurd cc
beside_step ask brick Unasked event.Silent link mid other differ fit (next, (none, few, is), end) = ap (λ l. lane_of l other) (sym end ∙ is) ∙ other_hushed link brick other differ
beside_step ask brick (Asked strays) event.Sent link mid other differ fit made = absurd cc
beside_step ask brick (Asked strays) (event.Frame bytes) link mid other differ fit (next, (gives, few, is), end) = ap (λ l. lane_of l other) (sym end ∙ is) ∙ other_lane (record link { got = counted link.got }) brick given other differ
beside_step ask brick (Asked strays) event.Silent link mid other differ fit (next, (quiet, few, is), end) = ap (λ l. lane_of l other) (sym end ∙ is) ∙ other_hushed link brick other differ

-- several calls in a row are some, and then the others
pub made_split : (first more : List LinkEvent) (old new : ScriptValue) → Made ScriptMakes old (first ++ more) new → (mid : ScriptValue) × Made ScriptMakes old first mid × Made ScriptMakes mid more new
made_split [] more old new h = (old, refl, h)
made_split (call ∷ first) more old new (next, made, rest) = (let later = made_split first more next new rest in (later.0, (next, made, later.1), later.2))
