-- What the link counts where bricks are asked in turn.
use Rattle.std.proofs.Common.{arith, ◌≡◌, ◌∙◌, ap, sym, refl, subst, ℕ, zero, suc, ◌+◌, ◌-◌, ◌^◌, ◌<◌, Bool, true, false, IsTrue, nat_lt, if◌then◌else◌, List, [], ◌∷◌, ◌++◌, length, All, Option, Some, None, append_assoc, append-nil, length-append, slice_get, slice_set}
use Rattle.std.specs.List.{sum_by}
use Rattle.std.specs.Option.{option_map, option_and_then}
use Rattle.std.proofs.lemmas.Bool.{ltb-false}
use Rattle.std.proofs.lemmas.List.{length_push}
use Rattle.std.proofs.lemmas.List.Sums.{sum_by-cons}
use Rattle.std.proofs.lemmas.List.Elements.{All-push}
use Rattle.crash_base.specs.declared.numbers.BrickNo.{BrickNo}
use Rattle.outside.specs.Link.{Made}
use Rattle.outside.specs.Faults.{counted}
use Rattle.ssm_frames.specs.declared.frame.Frame.{Frame}
use Rattle.ssm_frames.specs.Reading.{decode_of}
use Rattle.ssm_stub.specs.declared.ask.Ask.{Ask}
use Rattle.ssm_stub.specs.declared.ear.TheConstants.{MAX_STRAYS}
use Rattle.ssm_stub.specs.declared.ear.Stage.{Stage}
use Rattle.ssm_stub.specs.declared.ear.Stage.TheVariants.{Unasked, Asked}
use Rattle.ssm_stub.specs.declared.ear.Outcome.TheVariants.{Answered, Silent, Strayed}
use Rattle.ssm_stub.specs.declared.ear.Ear.{Ear}
use Rattle.ssm_stub.specs.declared.ear.Ear.TheVariants.{Open, Heard}
use Rattle.ssm_stub.specs.declared.event.StubEvent.{StubEvent}
use Rattle.ssm_stub.specs.declared.event.StubEvent.TheVariants as event
use Rattle.ssm_stub.specs.Ears.{after_frame, heard}
use Rattle.ssm_stub.specs.Turns.{wanted_of}
use Rattle.ssm_stub.specs.Runs.{told_of, fits, call_of}
use Rattle.link_lanes.specs.Lanes.{lane_of, with_lane, more_unknown, IsFirst, raised}
use Rattle.link_memory.specs.Lane.{LaneValue, asked, given, silent, counted_times}
use Rattle.link_memory.specs.Rule.{Hearing, heard_from}
use Rattle.link_memory.specs.Leaving.{IsUnlawful, Left, silences_told, unknown_told, frames_taken, frames_given, Counts}
use Rattle.link_memory.specs.Script.{ScriptValue, hushed_by, IsQuiet, Gives, ScriptMakes}
use Rattle.link_memory.proofs.Queues.{rule_answers, rule_silent, rule_strays}

pub sooner : (more n : ℕ) → counted (counted_times more n) ≡ counted_times more (counted n)
sooner zero n = refl
sooner (suc more) n = sooner more (counted n)

pub times_more : (few more n : ℕ) → counted_times few (counted_times more n) ≡ counted_times (few + more) n
times_more zero more n = ap (λ k. counted_times k n) (let e : more ≡ 0 + more = omega arith in e)
times_more (suc few) more n = ap (counted_times few) (sooner more n) ∙ (times_more few more (counted n) ∙ ap (λ k. counted_times k n) (let e : suc (few + more) ≡ suc few + more = omega arith in e))

-- a count goes up to its last value
pub raises : (more n : ℕ) → n < 2 ^ 64 → counted_times more n ≡ raised n more
raises zero n fits = omega arith
raises (suc more) n fits = (let later = raises more (counted n) (omega arith) in later ∙ (let e : raised (counted n) more ≡ raised n (suc more) = omega arith in e))

-- a sum in which one term grew
pub sum_grew : {X : Type 0} (f : X → ℕ) (xs : List X) (at : ℕ) (x y : X) (more : ℕ) → slice_get xs at ≡ Some x → f y ≡ more + f x → sum_by f (slice_set xs at y) ≡ more + sum_by f xs
sum_grew f [] at x y more here grew = absurd cc
sum_grew f (z ∷ zs) zero x y more here grew =
    let same : f z ≡ f x = (let e : z ≡ x = cc in ap f e) in
    let old : sum_by f (z ∷ zs) ≡ f z + sum_by f zs = sum_by-cons f z zs in
    let new : sum_by f (y ∷ zs) ≡ f y + sum_by f zs = sum_by-cons f y zs in
    omega arith
sum_grew f (z ∷ zs) (suc at) x y more here grew =
    let rest = sum_grew f zs at x y more here grew in
    let old : sum_by f (z ∷ zs) ≡ f z + sum_by f zs = sum_by-cons f z zs in
    let new : sum_by f (z ∷ slice_set zs at y) ≡ f z + sum_by f (slice_set zs at y) = sum_by-cons f z (slice_set zs at y) in
    omega arith

zero_sum : {X : Type 0} (f : X → ℕ) (xs : List X) → ((i : ℕ) (x : X) → slice_get xs i ≡ Some x → f x ≡ 0) → sum_by f xs ≡ 0
zero_sum f [] h = refl
zero_sum f (x ∷ xs) h =
    let first = h 0 x refl in
    let rest = zero_sum f xs (λ i y here. h (suc i) y here) in
    let whole : sum_by f (x ∷ xs) ≡ f x + sum_by f xs = sum_by-cons f x xs in
    omega arith

-- the silence, and the frame, of an event
abbrev pub quiet : StubEvent → ℕ
quiet event.Sent = 0
quiet (event.Frame bytes) = 0
quiet event.Silent = 1

abbrev pub frames : StubEvent → ℕ
frames event.Sent = 0
frames (event.Frame bytes) = 1
frames event.Silent = 0

abbrev pub quiet_unknown : StubEvent → Option LaneValue → ℕ
quiet_unknown e None = quiet e
quiet_unknown e (Some lane) = 0

-- What one call counts.
pub record Counted (e : StubEvent) (found : Option LaneValue) (link mid : ScriptValue) : Type 0 where
  hushed_is : mid.hushed ≡ counted_times (quiet e) link.hushed
  unknown_is : mid.unknown ≡ counted_times (quiet_unknown e found) link.unknown
  got_is : mid.got ≡ counted_times (frames e) link.got

none_quiet : (e : StubEvent) (found : Option LaneValue) → quiet e ≡ 0 → quiet_unknown e found ≡ 0
none_quiet e None h = h
none_quiet e (Some lane) h = refl

on_it : (e : StubEvent) (found new : Option LaneValue) (link next mid : ScriptValue) (brick : ℕ) → quiet e ≡ 0 → next.hushed ≡ link.hushed → next.unknown ≡ link.unknown → next.got ≡ counted_times (frames e) link.got → mid ≡ with_lane next brick new → Counted e found link mid
on_it e found new link next mid brick none hushed unknown got is = (let P : ScriptValue → Type 0 = λ l. Counted e found link l in subst P (sym is) (by_new new)) where
  by_new : (o : Option LaneValue) → Counted e found link (with_lane next brick o)
  by_new None = record { hushed_is = hushed ∙ ap (λ n. counted_times n link.hushed) (sym none); unknown_is = unknown ∙ ap (λ n. counted_times n link.unknown) (sym (none_quiet e found none)); got_is = got }
  by_new (Some lane) = record { hushed_is = hushed ∙ ap (λ n. counted_times n link.hushed) (sym none); unknown_is = unknown ∙ ap (λ n. counted_times n link.unknown) (sym (none_quiet e found none)); got_is = got }

hushes : (brick : BrickNo) (link mid : ScriptValue) → mid ≡ hushed_by brick link → Counted event.Silent (lane_of link brick.0) link mid
hushes brick link mid is = (let P : ScriptValue → Type 0 = λ l. Counted event.Silent (lane_of link brick.0) link l in subst P (sym is) (go (lane_of link brick.0))) where
  go : (found : Option LaneValue) → Counted event.Silent found link (more_unknown found (with_lane (record link { hushed = counted link.hushed }) brick.0 (option_map silent found)))
  go None = record { hushed_is = refl; unknown_is = refl; got_is = refl }
  go (Some lane) = record { hushed_is = refl; unknown_is = refl; got_is = refl }

pub call_counts : (ask : List ℕ) (brick : BrickNo) (stage : Stage) (e : StubEvent) (link mid : ScriptValue) → IsTrue (fits (wanted_of brick stage) (told_of e)) → Made ScriptMakes link (call_of ask (wanted_of brick stage) e) mid → Counted e (lane_of link brick.0) link mid
call_counts ask brick Unasked event.Sent link mid fit (next, (there, is), end) = on_it event.Sent (lane_of link brick.0) (option_map (asked ask) (lane_of link brick.0)) link link mid brick.0 refl refl refl refl (sym end ∙ is)
call_counts ask brick Unasked (event.Frame bytes) link mid fit made = absurd cc
call_counts ask brick Unasked event.Silent link mid fit (next, (none, few, is), end) = hushes brick link mid (sym end ∙ is)
call_counts ask brick (Asked strays) event.Sent link mid fit made = absurd cc
call_counts ask brick (Asked strays) (event.Frame bytes) link mid fit (next, (gives, few, is), end) = on_it (event.Frame bytes) (lane_of link brick.0) (option_map given (lane_of link brick.0)) link (record link { got = counted link.got }) mid brick.0 refl refl refl refl (sym end ∙ is)
call_counts ask brick (Asked strays) event.Silent link mid fit (next, (still, few, is), end) = hushes brick link mid (sym end ∙ is)

-- what is told of the silences by an event
frame_quiet : {A : Type 0} (strays : ℕ) (verdict : Option A) → silences_told (after_frame (Asked strays) verdict) ≡ 0
frame_quiet strays (Some reply) = refl
frame_quiet {A} strays None = go (nat_lt strays (MAX_STRAYS - 1)) where
  go : (more : Bool) → silences_told {A = A} (if more then Open (Asked (strays + 1)) else Heard Strayed) ≡ 0
  go true = refl
  go false = refl

pub told_quiet : {A : Type 0} (lawful : Frame → Option A) (brick : BrickNo) (stage : Stage) (e : StubEvent) → IsTrue (fits (wanted_of brick stage) (told_of e)) → silences_told (heard lawful stage (told_of e)) ≡ quiet e
told_quiet lawful brick Unasked event.Sent fit = refl
told_quiet lawful brick Unasked (event.Frame bytes) fit = absurd cc
told_quiet lawful brick Unasked event.Silent fit = refl
told_quiet lawful brick (Asked strays) event.Sent fit = absurd cc
told_quiet lawful brick (Asked strays) (event.Frame bytes) fit = frame_quiet strays (option_and_then lawful (decode_of bytes))
told_quiet lawful brick (Asked strays) event.Silent fit = refl

-- a number has a lane as before
pub told_unknown : {A : Type 0} (lawful : Frame → Option A) (ask : List ℕ) (brick : BrickNo) (stage : Stage) (e : StubEvent) (base left : Option LaneValue) → Left lawful ask (Open stage) base left → IsTrue (fits (wanted_of brick stage) (told_of e)) → unknown_told (heard lawful stage (told_of e)) base ≡ quiet_unknown e left
told_unknown lawful ask brick Unasked e None left h fit = told_quiet lawful brick Unasked e fit ∙ sym (ap (quiet_unknown e) h)
told_unknown lawful ask brick (Asked strays) e None left h fit = absurd h
told_unknown lawful ask brick Unasked e (Some lane) left h fit = sym (ap (quiet_unknown e) h)
told_unknown lawful ask brick (Asked strays) e (Some lane) left h fit = sym (ap (quiet_unknown e) h.leaves)

module _ {A : Type 0} (lawful : Frame → Option A) (strays : ℕ) (queue before : List Frame) (all : All (IsUnlawful lawful) before) (many : length before ≡ strays) (few : strays < MAX_STRAYS) where
  abbrev ByRule : Ear A → ℕ → Type 0
  ByRule (Open Unasked) n = ⊥
  ByRule (Open (Asked strays)) n = strays ≡ n
  ByRule (Heard outcome) n = length queue - length (heard_from lawful queue).left ≡ n

  frame_taken : (frame : Frame) (rest : List Frame) → queue ≡ before ++ frame ∷ rest → (verdict : Option A) → lawful frame ≡ verdict → ByRule (after_frame (Asked strays) verdict) (1 + strays)
  frame_taken frame rest is (Some reply) lawful_so =
      let ruled : heard_from lawful queue ≡ record { outcome = Answered reply; left = rest } = ap (heard_from lawful) is ∙ rule_answers lawful before frame rest reply all (omega arith) lawful_so in
      let long : length queue ≡ length before + length (frame ∷ rest) = ap length is ∙ length-append before (frame ∷ rest) in
      let left : length (heard_from lawful queue).left ≡ length rest = ap (λ (h : Hearing A). length h.left) ruled in
      omega arith
  frame_taken frame rest is None stray = go (nat_lt strays (MAX_STRAYS - 1)) refl where
    go : (more : Bool) → nat_lt strays (MAX_STRAYS - 1) ≡ more → ByRule (if more then Open (Asked (strays + 1)) else Heard Strayed) (1 + strays)
    go true below = omega arith
    go false above =
        let on : queue ≡ (before ++ frame ∷ []) ++ rest = is ∙ sym (append_assoc before (frame ∷ []) rest) in
        let pushed = length_push before frame in
        let full = ltb-false strays (MAX_STRAYS - 1) above in
        let ruled : heard_from lawful queue ≡ record { outcome = Strayed; left = rest } = ap (heard_from lawful) on ∙ rule_strays lawful (before ++ frame ∷ []) rest (All-push (IsUnlawful lawful) before frame all stray) (omega arith) in
        let long : length queue ≡ length before + length (frame ∷ rest) = ap length is ∙ length-append before (frame ∷ rest) in
        let left : length (heard_from lawful queue).left ≡ length rest = ap (λ (h : Hearing A). length h.left) ruled in
        omega arith

  none_taken : (rest : List Frame) → queue ≡ before ++ rest → rest ≡ [] → length queue - length (heard_from lawful queue).left ≡ strays
  none_taken rest is none =
      let whole : queue ≡ before = is ∙ (ap (λ xs. before ++ xs) none ∙ append-nil before) in
      let ruled : heard_from lawful queue ≡ record { outcome = Silent; left = [] } = ap (heard_from lawful) whole ∙ rule_silent lawful before all (omega arith) in
      let long : length queue ≡ length before = ap length whole in
      let left : length (heard_from lawful queue).left ≡ 0 = ap (λ (h : Hearing A). length h.left) ruled in
      omega arith

  first_taken : (bytes : List ℕ) (rest : List Frame) → queue ≡ before ++ rest → IsFirst bytes rest → ByRule (after_frame (Asked strays) (option_and_then lawful (decode_of bytes))) (1 + strays)
  first_taken bytes [] is first = absurd first
  first_taken bytes (frame ∷ rest) is (spelled, back) =
      (let P : Option Frame → Type 0 = λ f. ByRule (after_frame (Asked strays) (option_and_then lawful f)) (1 + strays) in subst P (sym back) (frame_taken frame rest is (lawful frame) refl))

by_rule : {A : Type 0} (lawful : Frame → Option A) (ask : List ℕ) (strays : ℕ) (lane : LaneValue) (before : List Frame) (all : All (IsUnlawful lawful) before) (many : length before ≡ strays) (few : strays < MAX_STRAYS) (ear : Ear A) (n : ℕ) → ByRule lawful strays (asked ask lane).queue before all many few ear n → frames_taken lawful ask ear lane ≡ n
by_rule lawful ask strays lane before all many few (Open Unasked) n h = absurd h
by_rule lawful ask strays lane before all many few (Open (Asked more)) n h = h
by_rule lawful ask strays lane before all many few (Heard outcome) n h = h

-- what is told of the frames
pub told_frames : {A : Type 0} (lawful : Frame → Option A) (ask : List ℕ) (brick : BrickNo) (stage : Stage) (e : StubEvent) (base : Option LaneValue) (link mid : ScriptValue) → Left lawful ask (Open stage) base (lane_of link brick.0) → IsTrue (fits (wanted_of brick stage) (told_of e)) → Made ScriptMakes link (call_of ask (wanted_of brick stage) e) mid
    → frames_given lawful ask (heard lawful stage (told_of e)) base ≡ frames e + frames_given lawful ask (Open stage) base
told_frames lawful ask brick Unasked event.Sent None link mid h fit made = refl
told_frames lawful ask brick Unasked event.Sent (Some lane) link mid h fit made = refl
told_frames lawful ask brick Unasked (event.Frame bytes) base link mid h fit made = absurd cc
told_frames lawful ask brick Unasked event.Silent None link mid h fit made = refl
told_frames lawful ask brick Unasked event.Silent (Some lane) link mid h fit (next, (none, few, is), end) = absurd (let e : Some lane ≡ None = sym h ∙ none in cc)
told_frames lawful ask brick (Asked strays) e None link mid h fit made = absurd h
told_frames lawful ask brick (Asked strays) event.Sent (Some lane) link mid h fit made = absurd cc
told_frames {A} lawful ask brick (Asked strays) (event.Frame bytes) (Some lane) link mid h fit (next, (gives, few, is), end) =
    let P : Option LaneValue → Type 0 = λ o. Gives bytes o in
    let ear = after_frame (Asked strays) (option_and_then lawful (decode_of bytes)) in
    by_rule lawful ask strays lane h.before h.are_strays h.so_many h.few ear (1 + strays)
    (first_taken lawful strays (asked ask lane).queue h.before h.are_strays h.so_many h.few bytes h.rest h.queue_is (subst P h.leaves gives))
told_frames lawful ask brick (Asked strays) event.Silent (Some lane) link mid h fit (next, (still, few, is), end) =
    let P : Option LaneValue → Type 0 = λ o. IsQuiet o in
    none_taken lawful strays (asked ask lane).queue h.before h.are_strays h.so_many h.few h.rest h.queue_is (subst P h.leaves still)
    ∙ (let e : strays ≡ 0 + strays = omega arith in e)

-- What the link counted grows with each call.
pub counts_on : {W A : Type 0} (brick_of : W → BrickNo) (lawful : W → Frame → Option A) (ask : List ℕ) (asks : List (Ask W A)) (at : ℕ) (who : W) (stage : Stage) (e : StubEvent) (old link mid : ScriptValue) → slice_get asks at ≡ Some (record { who = who; ear = Open stage })
    → Left (lawful who) ask (Open stage) (lane_of old (brick_of who).0) (lane_of link (brick_of who).0) → Counts brick_of lawful ask asks old link
    → IsTrue (fits (wanted_of (brick_of who) stage) (told_of e)) → Made ScriptMakes link (call_of ask (wanted_of (brick_of who) stage) e) mid
    → Counts brick_of lawful ask (slice_set asks at (record { who = who; ear = heard (lawful who) stage (told_of e) })) old mid
counts_on {W} {A} brick_of lawful ask asks at who stage e old link mid here left counts fit made =
    let x : Ask W A = record { who = who; ear = Open stage } in
    let y : Ask W A = record { who = who; ear = heard (lawful who) stage (told_of e) } in
    let base = lane_of old (brick_of who).0 in
    let now = lane_of link (brick_of who).0 in
    let call = call_counts ask (brick_of who) stage e link mid fit made in
    let hushed : Ask W A → ℕ = λ a. silences_told a.ear in
    let unknown : Ask W A → ℕ = λ a. unknown_told a.ear (lane_of old (brick_of a.who).0) in
    let got : Ask W A → ℕ = λ a. frames_given (lawful a.who) ask a.ear (lane_of old (brick_of a.who).0) in
    let no_unknown : unknown x ≡ 0 = none_open base in
    let more_hushed : hushed y ≡ quiet e + hushed x = told_quiet (lawful who) (brick_of who) stage e fit ∙ (let s : quiet e ≡ quiet e + 0 = omega arith in s) in
    let more_unknown : unknown y ≡ quiet_unknown e now + unknown x = told_unknown (lawful who) ask (brick_of who) stage e base now left fit ∙ (let s : quiet_unknown e now ≡ quiet_unknown e now + unknown x = omega arith in s) in
    record {
      hushed_is = call.hushed_is ∙ (ap (counted_times (quiet e)) counts.hushed_is ∙ (times_more (quiet e) (sum_by hushed asks) old.hushed
          ∙ ap (λ n. counted_times n old.hushed) (sym (sum_grew hushed asks at x y (quiet e) here more_hushed))));
      unknown_is = call.unknown_is ∙ (ap (counted_times (quiet_unknown e now)) counts.unknown_is ∙ (times_more (quiet_unknown e now) (sum_by unknown asks) old.unknown
          ∙ ap (λ n. counted_times n old.unknown) (sym (sum_grew unknown asks at x y (quiet_unknown e now) here more_unknown))));
      got_is = call.got_is ∙ (ap (counted_times (frames e)) counts.got_is ∙ (times_more (frames e) (sum_by got asks) old.got
          ∙ ap (λ n. counted_times n old.got) (sym (sum_grew got asks at x y (frames e) here (told_frames (lawful who) ask (brick_of who) stage e base link mid left fit made)))));
    }
  where
    none_open : (found : Option LaneValue) → unknown_told {A = A} (Open stage) found ≡ 0
    none_open None = refl
    none_open (Some lane) = refl

-- Nothing was counted where none was asked.
pub none_counted : {W A : Type 0} (brick_of : W → BrickNo) (lawful : W → Frame → Option A) (ask : List ℕ) (asks : List (Ask W A)) (link : ScriptValue) → ((i : ℕ) (a : Ask W A) → slice_get asks i ≡ Some a → a.ear ≡ Open Unasked) → Counts brick_of lawful ask asks link link
none_counted {W} {A} brick_of lawful ask asks link none = record {
  hushed_is = ap (λ n. counted_times n link.hushed) (sym (zero_sum (λ a. silences_told a.ear) asks (λ i a h. ap silences_told (none i a h))));
  unknown_is = ap (λ n. counted_times n link.unknown) (sym (zero_sum (λ a. unknown_told a.ear (lane_of link (brick_of a.who).0)) asks (λ i a h. ap (λ ear. unknown_told ear (lane_of link (brick_of a.who).0)) (none i a h) ∙ unknown (lane_of link (brick_of a.who).0))));
  got_is = ap (λ n. counted_times n link.got) (sym (zero_sum (λ a. frames_given (lawful a.who) ask a.ear (lane_of link (brick_of a.who).0)) asks (λ i a h. ap (λ ear. frames_given (lawful a.who) ask ear (lane_of link (brick_of a.who).0)) (none i a h) ∙ got (lawful a.who) (lane_of link (brick_of a.who).0))));
}
  where
    unknown : (found : Option LaneValue) → unknown_told {A = A} (Open Unasked) found ≡ 0
    unknown None = refl
    unknown (Some lane) = refl

    got : (rule : Frame → Option A) (found : Option LaneValue) → frames_given rule ask (Open Unasked) found ≡ 0
    got rule None = refl
    got rule (Some lane) = refl
