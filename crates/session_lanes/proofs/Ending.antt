-- A call that goes on comes to its end, and what stays meanwhile.
use Rattle.std.proofs.Common.{◌≡◌, ◌⊎◌, inl, inr, ℕ, zero, suc, ◌+◌, ◌-◌, ◌*◌, ◌<◌, ◌≤◌, nat_le, ◌&&◌, Bool, true, false, IsTrue, nat_lt, if◌then◌else◌, List, [], ◌∷◌, ◌++◌, length, Option, Some, None, Result, refl, sym, ap, subst, ◌∙◌, arith, append_assoc}
use Rattle.std.specs.Prelude.{slice_get, slice_set}
use Rattle.std.proofs.lemmas.Bool.Decides.{nat_tests}
use Rattle.std.proofs.lemmas.List.{length-set, length-map}
use Rattle.crash_base.specs.declared.numbers.BrickNo.{BrickNo}
use Rattle.crash_base.specs.declared.numbers.Moment.{Moment}
use Rattle.crash_base.specs.declared.numbers.Version.{Version}
use Rattle.session_cookie.specs.declared.cookie.Cookie.{Cookie}
use Rattle.session_cookie.specs.declared.cookie.TheConstants.{MAX_HOLDERS}
use Rattle.ssm_frames.specs.declared.frame.Frame.{Frame}
use Rattle.ssm_frames.specs.declared.frame.Frame.TheVariants as frames
use Rattle.brick_store.specs.declared.event.BrickEvent.{BrickEvent}
use Rattle.brick_store.specs.declared.event.BrickEvent.TheVariants.{Stored, Sweep, Crash}
use Rattle.brick_store.specs.Bricks.{put_value}
use Rattle.brick_store.specs.History.{all_held, incarnation_after, swept_after}
use Rattle.brick_store.specs.Kept.{is_full}
use Rattle.brick_store.specs.Standing.{heard}
use Rattle.ssm_stub.specs.declared.event.StubNext.{StubNext}
use Rattle.ssm_stub.specs.declared.event.StubNext.TheVariants as next
use Rattle.ssm_stub.specs.declared.event.Told.{Told}
use Rattle.ssm_stub.specs.declared.event.Told.TheVariants as told
use Rattle.ssm_stub.specs.declared.read_call.ReadRefusal.{ReadRefusal}
use Rattle.ssm_stub.specs.declared.write_call.WriteRefusal.{WriteRefusal}
use Rattle.ssm_stub.specs.declared.reply.WriteReply.{WriteReply}
use Rattle.ssm_stub.specs.Runs.{fits}
use Rattle.ssm_stub.specs.Turns.{turn_after_asks, next_unless}
use Rattle.ssm_stub.specs.Writes.{WriteState, put_lawful, write_answer, write_next}
use Rattle.ssm_stub.specs.Reads.{ReadState, read_answer, read_next}
use Rattle.ssm_stub.proofs.Concluding.{write-answered, read-answered}
use Rattle.ssm_stub.proofs.Places.{turn_after_asks-stands}
use Rattle.ssm_stub.proofs.Weights.{weight, weight_within, turned_falls, read_falls}
use Rattle.ssm_world.specs.declared.call.Call.{Call}
use Rattle.ssm_world.specs.declared.call.Call.TheVariants as call
use Rattle.ssm_world.specs.declared.event.WorldEvent.{WorldEvent}
use Rattle.ssm_world.specs.declared.event.WorldEvent.TheVariants as event
use Rattle.ssm_world.specs.Sound.{untold, asked_of, IsSound, CallIsSound}
use Rattle.ssm_world.specs.Worlds.{WorldValue, ask_of, next_of, hear, history, step, after, bricks_of, IsMade}
use Rattle.ssm_world.proofs.Asks.{asked_none}
use Rattle.ssm_world.proofs.CallAsks.{ask_is_request}
use Rattle.ssm_world.proofs.Hearing.{hear_untold}
use Rattle.ssm_world.proofs.Lists.{get_front, get_set_same, history_keeps}
use Rattle.ssm_world.proofs.Making.{step_made}
use Rattle.ssm_world.proofs.Steps.{world_is_sound}
use Rattle.ssm_world.proofs.Tests.{both}
use Rattle.session_lanes.specs.Lane.{LaneState, lane_at, with_reply}
use Rattle.session_lanes.specs.Lanes.{LanesState, after_event, with_lane, asks, hears, listens, turn_to, turn_of, turns, gone_on}
use Rattle.session_lanes.specs.Sound.{LanesAreOf}
use Rattle.session_lanes.specs.declared.lanes.TheConstants.{TURNS_PER_BRICK}
use Rattle.session_lanes.proofs.LaneLists.{get_set_other, histories_as_many}
use Rattle.session_lanes.proofs.LanesStay.{PacketsStay, two_more, turn_lanes}
use Rattle.session_lanes.proofs.Turning.{answered_world, turn_cases}

-- these events are all of values that were stored
abbrev pub OnlyStores : List BrickEvent → Type 0
OnlyStores [] = Unit {0}
OnlyStores (Stored s ∷ h) = OnlyStores h
OnlyStores (Sweep moment ∷ h) = ⊥
OnlyStores (Crash ∷ h) = ⊥

stores_append : (newer h : List BrickEvent) → OnlyStores newer → OnlyStores h → OnlyStores (newer ++ h)
stores_append [] h first second = second
stores_append (Stored s ∷ newer) h first second = stores_append newer h first second
stores_append (Sweep moment ∷ newer) h first second = absurd first
stores_append (Crash ∷ newer) h first second = absurd first

-- such events leave the incarnation, and the moment swept
pub stores_incarnation : (first : ℕ) (newer h : List BrickEvent) → OnlyStores newer → incarnation_after first (newer ++ h) ≡ incarnation_after first h
stores_incarnation first [] h only = refl
stores_incarnation first (Stored s ∷ newer) h only = stores_incarnation first newer h only
stores_incarnation first (Sweep moment ∷ newer) h only = absurd only
stores_incarnation first (Crash ∷ newer) h only = absurd only

pub stores_swept : (newer h : List BrickEvent) → OnlyStores newer → swept_after (newer ++ h) ≡ swept_after h
stores_swept [] h only = refl
stores_swept (Stored s ∷ newer) h only = stores_swept newer h only
stores_swept (Sweep moment ∷ newer) h only = absurd only
stores_swept (Crash ∷ newer) h only = absurd only

-- What stays of a store while one of its calls goes on: each packet, each other call, the number of calls and of
-- bricks, and the windows; and bricks store values at most.
pub record Keeps (st : LanesState) (n : ℕ) (v : LanesState) : Type 0 where
  pub packets : PacketsStay st.world v.world
  pub others : (j : ℕ) → (j ≡ n → ⊥) → slice_get v.world.calls j ≡ slice_get st.world.calls j
  pub calls : length v.world.calls ≡ length st.world.calls
  pub bricks : length v.world.histories ≡ length st.world.histories
  pub histories : (brick : BrickNo) (h : List BrickEvent) → history st.world brick ≡ Some h → (newer : List BrickEvent) × (history v.world brick ≡ Some (newer ++ h)) × OnlyStores newer
  pub windows : v.windows ≡ st.windows

pub keeps_same : (st : LanesState) (n : ℕ) → Keeps st n st
keeps_same st n = record {
  packets = λ i p is. is;
  others = λ j apart. refl;
  calls = refl;
  bricks = refl;
  histories = λ brick h is. ([], is, tt);
  windows = refl;
}

pub keeps_on : (st u v : LanesState) (n : ℕ) → Keeps st n u → Keeps u n v → Keeps st n v
keeps_on st u v n first second = record {
  packets = λ i p is. second.packets i p (first.packets i p is);
  others = λ j apart. second.others j apart ∙ first.others j apart;
  calls = second.calls ∙ first.calls;
  bricks = second.bricks ∙ first.bricks;
  histories = λ brick h is.
      let middle : (newer : List BrickEvent) × (history u.world brick ≡ Some (newer ++ h)) × OnlyStores newer = first.histories brick h is in
      let last : (newer : List BrickEvent) × (history v.world brick ≡ Some (newer ++ (middle.0 ++ h))) × OnlyStores newer = second.histories brick (middle.0 ++ h) middle.1 in
      (last.0 ++ middle.0, last.1 ∙ ap (λ g. Some g) (sym (append_assoc last.0 middle.0 h)), stores_append last.0 middle.0 last.2 middle.2);
  windows = second.windows ∙ first.windows;
}

-- a frame is no Sweep
abbrev NoSweep : Frame → Type 0
NoSweep frame = (nonce : Version) (moment : Moment) → frame ≡ frames.Sweep nonce moment → ⊥

ask_no_sweep : (w : WorldValue) (c : Call) → CallIsSound w c → NoSweep (ask_of c)
ask_no_sweep w (call.Write s) sound = λ nonce moment is. absurd (let e : frames.Put s.nonce s.key s.nonce s.expiry sound.value ≡ frames.Sweep nonce moment = sym sound.ask_is ∙ is in cc)
ask_no_sweep w (call.Read s) sound = λ nonce moment is. cc

-- a frame that is no Sweep makes a brick store a value at most
heard_stores : (h : List BrickEvent) (frame : Frame) → NoSweep frame → (newer : List BrickEvent) × (heard h frame ≡ newer ++ h) × OnlyStores newer
heard_stores h (frames.Put n k v expiry value) none = go (is_full (all_held h) (put_value k v expiry value))
  where
    go : (b : Bool) → (newer : List BrickEvent) × ((if b then h else Stored (put_value k v expiry value) ∷ h) ≡ newer ++ h) × OnlyStores newer
    go true = ([], refl, tt)
    go false = (Stored (put_value k v expiry value) ∷ [], refl, tt)
heard_stores h (frames.Get n k v) none = ([], refl, tt)
heard_stores h (frames.Sweep n moment) none = absurd (none n moment refl)
heard_stores h (frames.Stored n k v b i) none = ([], refl, tt)
heard_stores h (frames.Found n k v b i expiry value) none = ([], refl, tt)
heard_stores h (frames.Absent n k v b i s) none = ([], refl, tt)
heard_stores h (frames.BrickFull n k v b i entries bytes) none = ([], refl, tt)
heard_stores h (frames.Swept n b i moment) none = ([], refl, tt)

-- a store where one call was told something, and where packets were added
told_keeps : (st v : LanesState) (n : ℕ) (d : Call) → PacketsStay st.world v.world → v.world.calls ≡ slice_set st.world.calls n d → v.world.histories ≡ st.world.histories → v.windows ≡ st.windows → Keeps st n v
told_keeps st v n d packets calls histories windows = record {
  packets = packets;
  others = λ j apart. ap (λ cs. slice_get cs j) calls ∙ get_set_other st.world.calls n d j apart;
  calls = ap length calls ∙ length-set st.world.calls n d;
  bricks = ap length histories;
  histories = λ brick h is. ([], ap (λ hs. history (record v.world { histories = hs }) brick) histories ∙ is, tt);
  windows = windows;
}

-- a turn keeps that
pub turn_keeps : (st : LanesState) (n : ℕ) (c : Call) → LanesAreOf st → IsSound st.world → slice_get st.world.calls n ≡ Some c → Keeps st n (turn_to st n (next_of c))
turn_keeps st n c lanes sound there = turn_cases (λ v. Keeps st n v) st n c lanes (ask_is_request st.world c (sound.calls n c there)) there (record {
  ended = λ wants. keeps_same st n;
  unsent = λ brick wants at. told_keeps st _ n (hear c told.Silent) (λ i p is. is) refl refl refl;
  dropped = λ brick lane wants at drops. told_keeps st _ n (hear c told.Sent) (λ i p is. get_front st.world.packets _ i p is) refl refl refl;
  answered = λ brick lane h frame wants at undropped now gives. (
      let adds : (newer : List BrickEvent) × (heard h (ask_of c) ≡ newer ++ h) × OnlyStores newer = heard_stores h (ask_of c) (ask_no_sweep st.world c (sound.calls n c there)) in
      record {
        packets = two_more st.world (answered_world st.world n c brick h frame) (record { brick = brick; frame = ask_of c }) (record { brick = brick; frame = frame }) refl;
        others = λ j apart. get_set_other st.world.calls n (hear c told.Sent) j apart;
        calls = length-set st.world.calls n (hear c told.Sent);
        bricks = histories_as_many st.world.histories brick.0 (heard h (ask_of c));
        histories = λ b g is. elim (history_keeps st.world.histories brick.0 (heard h (ask_of c)) b.0 g is) [
          | inl kept ↦ ([], kept, tt)
          | inr changed ↦ (
              let same : b ≡ brick = (let number : b.0 ≡ brick.0 = changed.0 in λ l. record { 0 = number l }) in
              let one : Some h ≡ Some g = sym now ∙ ap (history st.world) (sym same) ∙ is in
              let list : h ≡ g = cc in
              (adds.0, changed.1 ∙ ap (λ x. Some x) adds.1 ∙ ap (λ x. Some (adds.0 ++ x)) list, adds.2))
        ];
        windows = refl;
      });
  laneless = λ brick wants at. told_keeps st _ n (hear c told.Silent) (λ i p is. is) refl refl refl;
  silent = λ brick lane wants at empty. told_keeps st _ n (hear c told.Silent) (λ i p is. is) refl refl refl;
  came = λ brick lane packet rest p wants at queue is. told_keeps st _ n (hear c (told.Came (Some p.frame))) (λ i q at_i. at_i) refl refl refl;
})

-- these events made the one world of the other
abbrev pub MadeBy : WorldValue → WorldValue → Type 0
MadeBy w v = (events : List WorldEvent) × (v ≡ after w events)

after_append : (w : WorldValue) (first second : List WorldEvent) → after w (first ++ second) ≡ after (after w first) second
after_append w [] second = refl
after_append w (e ∷ first) second = after_append (step w e) first second

pub made_on : (w u v : WorldValue) → MadeBy w u → MadeBy u v → MadeBy w v
made_on w u v first second = (first.0 ++ second.0, second.1 ∙ ap (λ x. after x second.0) first.1 ∙ sym (after_append w first.0 second.0))

after_made : (w : WorldValue) (events : List WorldEvent) → IsMade w → IsMade (after w events)
after_made w [] made = made
after_made w (e ∷ events) made = after_made (step w e) events (step_made w e made)

pub made_by : (w v : WorldValue) → IsMade w → MadeBy w v → IsMade v
made_by w v made by = subst IsMade (sym by.1) (after_made w by.0 made)

-- a turn is events of the world
pub turn_made : (st : LanesState) (n : ℕ) (x : StubNext) → MadeBy st.world (turn_to st n x).world
turn_made st n (next.Send brick) = sends (lane_at st.lanes brick.0) where
  sends : (o : Option LaneState) → MadeBy st.world (asks st n brick o).world
  sends None = (event.Send n true false ∷ [], refl)
  sends (Some lane) = go (nat_lt 0 lane.to_drop) where
    go : (b : Bool) → MadeBy st.world (if b then with_lane (after_event st (event.Send n false true)) brick.0 (record lane { to_drop = lane.to_drop - 1 })
        else with_lane (after_event (after_event st (event.Send n false true)) (event.Deliver (length st.world.packets))) brick.0 (with_reply (length st.world.packets + 1) lane)).world
    go true = (event.Send n false true ∷ [], refl)
    go false = (event.Send n false true ∷ event.Deliver (length st.world.packets) ∷ [], refl)
turn_made st n (next.Receive brick) = receives (lane_at st.lanes brick.0) where
  hears_made : (lane : LaneState) (queue : List ℕ) → MadeBy st.world (hears st n brick lane queue).world
  hears_made lane [] = (event.Hush n ∷ [], refl)
  hears_made lane (packet ∷ rest) = (event.Hear n packet ∷ [], refl)

  receives : (o : Option LaneState) → MadeBy st.world (listens st n brick o).world
  receives None = (event.Hush n ∷ [], refl)
  receives (Some lane) = hears_made lane lane.queue
turn_made st n next.Ended = ([], refl)

-- how much is left of a call
abbrev pub call_weight : Call → ℕ
call_weight (call.Write s) = weight s.asks
call_weight (call.Read s) = weight s.asks

pub call_falls : (c : Call) (told : Told) → IsTrue (fits (next_of c) told) → call_weight (hear c told) < call_weight c
call_falls (call.Write s) told fit = turned_falls (put_lawful s.nonce s.key) (λ (brick : BrickNo). brick) told s.asks (turn_after_asks s.asks) (turn_after_asks-stands s.asks) fit
call_falls (call.Read s) told fit = read_falls s told fit

-- a call of which nothing is left wants nothing more
pub none_left : (c : Call) → call_weight c ≤ 0 → next_of c ≡ next.Ended
none_left c none = go (next_of c) refl where
  go : (x : StubNext) → next_of c ≡ x → x ≡ next.Ended
  go (next.Send brick) wants = absurd (
      let F : StubNext → Type 0 = λ y. IsTrue (fits y told.Sent) in
      let less : call_weight (hear c told.Sent) < call_weight c = call_falls c told.Sent (subst F (sym wants) refl) in
      omega (arith, less, none))
  go (next.Receive brick) wants = absurd (
      let F : StubNext → Type 0 = λ y. IsTrue (fits y told.Silent) in
      let less : call_weight (hear c told.Silent) < call_weight c = call_falls c told.Silent (subst F (sym wants) refl) in
      omega (arith, less, none))
  go next.Ended wants = refl

at_most_16 : (k : ℕ) → (nat_le 1 k && nat_le k MAX_HOLDERS) ≡ true → k ≤ 16
at_most_16 k is = grind (arith, nat_tests)

-- a sound call is told 66 events of each of 16 bricks at most
weight_at_most : (w : WorldValue) (c : Call) → CallIsSound w c → call_weight c ≤ 66 * 16
weight_at_most w (call.Write s) sound =
    let few : length (asked_of s.asks) ≤ 16 = at_most_16 (length (asked_of s.asks)) (both _ _ sound.bricks).0 in
    let same : length (asked_of s.asks) ≡ length s.asks = length-map s.asks _ in
    let within : weight s.asks ≤ 66 * length s.asks = weight_within s.asks in
    omega (arith, few, same, within)
weight_at_most w (call.Read s) sound =
    let few : length (bricks_of (asked_of s.asks)) ≤ 16 = at_most_16 (length (bricks_of (asked_of s.asks))) (both _ _ sound.bricks).0 in
    let first : length (bricks_of (asked_of s.asks)) ≡ length (asked_of s.asks) = length-map (asked_of s.asks) _ in
    let same : length (asked_of s.asks) ≡ length s.asks = length-map s.asks _ in
    let within : weight s.asks ≤ 66 * length s.asks = weight_within s.asks in
    omega (arith, few, first, same, within)

-- What a turn of a call that wants something comes to: the call is told one event that fits, and this holds.
pub record Turned (I : LanesState → Call → Type 0) (n : ℕ) (c : Call) (v : LanesState) : Type 0 where
  pub event : Told
  pub fitting : IsTrue (fits (next_of c) event)
  pub call_is : slice_get v.world.calls n ≡ Some (hear c event)
  pub holds : I v (hear c event)

-- What a call that goes on comes to: its end, where this holds.
pub record Over (I : LanesState → Call → Type 0) (n : ℕ) (v : LanesState) : Type 0 where
  pub end : Call
  pub there : slice_get v.world.calls n ≡ Some end
  pub lanes : LanesAreOf v
  pub made : IsMade v.world
  pub over : next_of end ≡ next.Ended
  pub holds : I v end

pub ended_or : (x : StubNext) → (x ≡ next.Ended) ⊎ (x ≡ next.Ended → ⊥)
ended_or (next.Send brick) = inr (λ e. cc)
ended_or (next.Receive brick) = inr (λ e. cc)
ended_or next.Ended = inl refl

pub made_is_sound : (w : WorldValue) → IsMade w → IsSound w
made_is_sound w made = subst IsSound (sym made.made) (world_is_sound made.bricks made.events)

-- each turn keeps what holds, up to the end
module _ (I : LanesState → Call → Type 0) (n : ℕ) (turned : (st : LanesState) (c : Call) → LanesAreOf st → IsMade st.world → slice_get st.world.calls n ≡ Some c → (next_of c ≡ next.Ended → ⊥) → I st c → Turned I n c (turn_to st n (next_of c))) where
  still : (fuel : ℕ) (st : LanesState) (c : Call) → slice_get st.world.calls n ≡ Some c → next_of c ≡ next.Ended → turns fuel st n ≡ st
  still zero st c there over = refl
  still (suc fuel) st c there over =
      ap (λ o. turns fuel (turn_of st n o) n) there ∙ ap (λ x. turns fuel (turn_to st n x) n) over ∙ still fuel st c there over

  runs : (fuel : ℕ) (st : LanesState) (c : Call) → LanesAreOf st → IsMade st.world → slice_get st.world.calls n ≡ Some c → call_weight c ≤ fuel → I st c → Over I n (turns fuel st n)
  runs zero st c lanes made there few holds = record { end = c; there = there; lanes = lanes; made = made; over = none_left c few; holds = holds }
  runs (suc fuel) st c lanes made there few holds = elim (ended_or (next_of c)) [
    | inl over ↦ (
        let O : LanesState → Type 0 = λ v. Over I n v in
        subst O (sym (still (suc fuel) st c there over)) (record { end = c; there = there; lanes = lanes; made = made; over = over; holds = holds }))
    | inr more ↦ (
        let v : LanesState = turn_to st n (next_of c) in
        let t : Turned I n c v = turned st c lanes made there more holds in
        let less : call_weight (hear c t.event) < call_weight c = call_falls c t.event t.fitting in
        let asking = ask_is_request st.world c ((made_is_sound st.world made).calls n c there) in
        let later : Over I n (turns fuel v n) =
        runs fuel v (hear c t.event) (turn_lanes st n c lanes asking there) (made_by st.world v.world made (turn_made st n (next_of c))) t.call_is (omega (arith, less, few)) t.holds in
        let O : Option Call → Type 0 = λ o. Over I n (turns fuel (turn_of st n o) n) in
        subst O (sym there) later)
  ]

  pub goes_over : (st : LanesState) (c : Call) → LanesAreOf st → IsMade st.world → slice_get st.world.calls n ≡ Some c → I st c → Over I n (gone_on st n)
  unfolding gone_on
  goes_over st c lanes made there holds =
      runs (TURNS_PER_BRICK * MAX_HOLDERS) st c lanes made there (weight_at_most st.world c ((made_is_sound st.world made).calls n c there)) holds

-- where there is no call of the number, nothing happens
none_goes : (fuel : ℕ) (st : LanesState) (n : ℕ) → slice_get st.world.calls n ≡ None → turns fuel st n ≡ st
none_goes zero st n none = refl
none_goes (suc fuel) st n none = ap (λ o. turns fuel (turn_of st n o) n) none ∙ none_goes fuel st n none

pub goes_nowhere : (st : LanesState) (n : ℕ) → slice_get st.world.calls n ≡ None → gone_on st n ≡ st
unfolding gone_on
goes_nowhere st n none = none_goes (TURNS_PER_BRICK * MAX_HOLDERS) st n none

-- each turn tells a call that wants something one event that fits
pub turn_tells : (st : LanesState) (n : ℕ) (c : Call) → LanesAreOf st → IsSound st.world → slice_get st.world.calls n ≡ Some c → (next_of c ≡ next.Ended → ⊥) → Turned (λ v d. Unit {0}) n c (turn_to st n (next_of c))
turn_tells st n c lanes sound there more = turn_cases (λ v. Turned (λ v d. Unit {0}) n c v) st n c lanes (ask_is_request st.world c (sound.calls n c there)) there (record {
  ended = λ wants. absurd (more wants);
  unsent = λ brick wants at. tells _ told.Silent (fitting (next.Send brick) told.Silent wants refl) refl;
  dropped = λ brick lane wants at drops. tells _ told.Sent (fitting (next.Send brick) told.Sent wants refl) refl;
  answered = λ brick lane h frame wants at undropped now gives. tells _ told.Sent (fitting (next.Send brick) told.Sent wants refl) refl;
  laneless = λ brick wants at. tells _ told.Silent (fitting (next.Receive brick) told.Silent wants refl) refl;
  silent = λ brick lane wants at empty. tells _ told.Silent (fitting (next.Receive brick) told.Silent wants refl) refl;
  came = λ brick lane packet rest p wants at queue is. tells _ (told.Came (Some p.frame)) (fitting (next.Receive brick) (told.Came (Some p.frame)) wants refl) refl;
}) where
  fitting : (x : StubNext) (t : Told) → next_of c ≡ x → IsTrue (fits x t) → IsTrue (fits (next_of c) t)
  fitting x t wants fit = (let F : StubNext → Type 0 = λ y. IsTrue (fits y t) in subst F (sym wants) fit)

  tells : (v : LanesState) (t : Told) → IsTrue (fits (next_of c) t) → v.world.calls ≡ slice_set st.world.calls n (hear c t) → Turned (λ v d. Unit {0}) n c v
  tells v t fit calls = record { event = t; fitting = fit; call_is = ap (λ cs. slice_get cs n) calls ∙ get_set_same st.world.calls n (hear c t) c there; holds = tt }

-- A call after it has gone on: it wants nothing more, and is the same but for what it was told; and what stays.
pub record Gone (st : LanesState) (n : ℕ) (c : Call) (v : LanesState) : Type 0 where
  pub end : Call
  pub there : slice_get v.world.calls n ≡ Some end
  pub same : untold end ≡ untold c
  pub over : next_of end ≡ next.Ended
  pub by : MadeBy st.world v.world
  pub keeps : Keeps st n v
  pub lanes : LanesAreOf v
  pub made : IsMade v.world

pub goes_on : (st : LanesState) (n : ℕ) (c : Call) → IsMade st.world → LanesAreOf st → slice_get st.world.calls n ≡ Some c → Gone st n c (gone_on st n)
goes_on st n c made lanes there =
    let over : Over I n (gone_on st n) = goes_over I n turned st c lanes made there (([], refl), keeps_same st n, refl) in
    record {
      end = over.end;
      there = over.there;
      same = over.holds.2;
      over = over.over;
      by = over.holds.0;
      keeps = over.holds.1;
      lanes = over.lanes;
      made = over.made;
    } where
      I : LanesState → Call → Type 0
      I v d = MadeBy st.world v.world × Keeps st n v × (untold d ≡ untold c)

      turned : (u : LanesState) (d : Call) → LanesAreOf u → IsMade u.world → slice_get u.world.calls n ≡ Some d → (next_of d ≡ next.Ended → ⊥) → I u d → Turned I n d (turn_to u n (next_of d))
      turned u d lanes made there more holds =
          let sound : IsSound u.world = made_is_sound u.world made in
          let v : LanesState = turn_to u n (next_of d) in
          let t : Turned (λ v d. Unit {0}) n d v = turn_tells u n d lanes sound there more in
          record {
            event = t.event;
            fitting = t.fitting;
            call_is = t.call_is;
            holds = (
              made_on st.world u.world v.world holds.0 (turn_made u n (next_of d)),
              keeps_on st u v n holds.1 (turn_keeps u n d lanes sound there),
              hear_untold d t.event ∙ holds.2,
            );
          }

-- a write that has gone on has its answer
pub write_ends : (s : WriteState) → write_next s ≡ next.Ended → (answer : Result Cookie WriteRefusal) × (write_answer s ≡ Some answer)
write_ends s over = go (write_answer s) refl where
  go : (o : Option (Result Cookie WriteRefusal)) → write_answer s ≡ o → (answer : Result Cookie WriteRefusal) × (o ≡ Some answer)
  go (Some answer) is = (answer, refl)
  go None is = absurd (write-answered s (ap (λ o. next_unless o (write_next s)) is ∙ over) is)

-- and a read
pub read_ends : (s : ReadState) → read_next s ≡ next.Ended → (answer : Result (List ℕ) ReadRefusal) × (read_answer s ≡ Some answer)
read_ends s over = go (read_answer s) refl where
  go : (o : Option (Result (List ℕ) ReadRefusal)) → read_answer s ≡ o → (answer : Result (List ℕ) ReadRefusal) × (o ≡ Some answer)
  go (Some answer) is = (answer, refl)
  go None is = absurd (read-answered s over is)

-- A write after it has gone on: it has its answer, and is the same but for what it was told.
pub record WriteGone (s : WriteState) (n : ℕ) (v : LanesState) : Type 0 where
  pub end : WriteState
  pub there : slice_get v.world.calls n ≡ Some (call.Write end)
  pub ask_is : end.ask ≡ s.ask
  pub least_is : end.least ≡ s.least
  pub nonce_is : end.nonce ≡ s.nonce
  pub key_is : end.key ≡ s.key
  pub expiry_is : end.expiry ≡ s.expiry
  pub asked_are : asked_of end.asks ≡ asked_of s.asks
  pub answer : Result Cookie WriteRefusal
  pub answers : write_answer end ≡ Some answer
  pub over : write_next end ≡ next.Ended

write_in : Call → WriteState → WriteState
write_in (call.Write s) other = s
write_in (call.Read s) other = other

pub write_gone : (st : LanesState) (n : ℕ) (s : WriteState) → IsMade st.world → LanesAreOf st → slice_get st.world.calls n ≡ Some (call.Write s) → WriteGone s n (gone_on st n)
unfolding write_in
write_gone st n s made lanes there =
    let gone : Gone st n (call.Write s) (gone_on st n) = goes_on st n (call.Write s) made lanes there in
    go gone.end gone.there gone.same gone.over where
      go : (d : Call) → slice_get (gone_on st n).world.calls n ≡ Some d → untold d ≡ untold (call.Write s) → next_of d ≡ next.Ended → WriteGone s n (gone_on st n)
      go (call.Write end) at same over =
          let one : write_in (untold (call.Write end)) s ≡ write_in (untold (call.Write s)) s = ap (λ c. write_in c s) same in
          let has : (answer : Result Cookie WriteRefusal) × (write_answer end ≡ Some answer) = write_ends end over in
          record {
            end = end;
            there = at;
            ask_is = ap (λ (x : WriteState). x.ask) one;
            least_is = ap (λ (x : WriteState). x.least) one;
            nonce_is = ap (λ (x : WriteState). x.nonce) one;
            key_is = ap (λ (x : WriteState). x.key) one;
            expiry_is = ap (λ (x : WriteState). x.expiry) one;
            asked_are = sym (asked_none WriteReply (asked_of end.asks)) ∙ ap (λ (x : WriteState). asked_of x.asks) one ∙ asked_none WriteReply (asked_of s.asks);
            answer = has.0;
            answers = has.1;
            over = over;
          }
      go (call.Read end) at same over = absurd (cc)
