-- A read answers by the rule.
use Rattle.std.proofs.Common.{◌≡◌, ℕ, zero, suc, ◌+◌, ◌-◌, ◌||◌, Bool, true, false, IsTrue, nat_lt, if◌then◌else◌, List, [], ◌∷◌, ◌++◌, length, map, filter_map, Option, Some, None, Result, Err, refl, sym, ap, subst, ◌∙◌, append_assoc}
use Rattle.std.specs.Prelude.{slice_get, slice_set}
use Rattle.std.specs.List.{fold}
use Rattle.std.specs.Option.{option_map, option_and_then}
use Rattle.std.proofs.lemmas.List.{map-append}
use Rattle.std.proofs.lemmas.Option.{slice_get-map}
use Rattle.crash_base.specs.declared.numbers.BrickNo.{BrickNo}
use Rattle.crash_base.specs.declared.numbers.Moment.{Moment}
use Rattle.crash_base.specs.declared.numbers.Version.{Version}
use Rattle.session_cookie.specs.declared.cookie.Cookie.{Cookie}
use Rattle.session_cookie.specs.declared.cookie.Holder.{Holder}
use Rattle.ssm_frames.specs.declared.frame.Frame.{Frame}
use Rattle.ssm_frames.specs.declared.frame.Frame.TheVariants.{Get}
use Rattle.brick_store.specs.declared.event.BrickEvent.{BrickEvent}
use Rattle.brick_store.specs.Bricks.{reply}
use Rattle.ssm_stub.specs.declared.ask.Ask.{Ask}
use Rattle.ssm_stub.specs.declared.ask.Turn.{Turn}
use Rattle.ssm_stub.specs.declared.ear.Stage.{Stage}
use Rattle.ssm_stub.specs.declared.ear.Stage.TheVariants.{Unasked, Asked}
use Rattle.ssm_stub.specs.declared.ear.Outcome.{Outcome}
use Rattle.ssm_stub.specs.declared.ear.Outcome.TheVariants as outcomes
use Rattle.ssm_stub.specs.declared.ear.Ear.{Ear}
use Rattle.ssm_stub.specs.declared.ear.Ear.TheVariants.{Open, Heard}
use Rattle.ssm_stub.specs.declared.event.StubNext.TheVariants as next
use Rattle.ssm_stub.specs.declared.event.Told.{Told}
use Rattle.ssm_stub.specs.declared.event.Told.TheVariants as told
use Rattle.ssm_stub.specs.declared.read_call.ReadRefusal.{ReadRefusal}
use Rattle.ssm_stub.specs.declared.read_call.ReadRefusal.TheVariants.{Expired}
use Rattle.ssm_stub.specs.declared.reply.ReadReply.{ReadReply}
use Rattle.ssm_stub.specs.Ears.{after_frame, heard, heard_on}
use Rattle.ssm_stub.specs.Runs.{fits}
use Rattle.ssm_stub.specs.Turns.{none_asked, turn_in_order, asks_after, wanted, wanted_of}
use Rattle.ssm_stub.specs.Reads.{ReadState, read_start, read_answer, turn_unless, turn_of_read, read_next, found_in, found_or, lost_unless, loss_of}
use Rattle.ssm_stub.proofs.Concluding.{wanted-ended}
use Rattle.ssm_stub.proofs.HearingEnds.{heard_stays}
use Rattle.ssm_stub.proofs.Places.{slice_set-back, turn_of_read-stands, with_ear-there}
use Rattle.ssm_stub.proofs.ReadOrder.{InOrder, run_in_order, started_in_order}
use Rattle.ssm_stub.proofs.Searching.{all_heard_in_order}
use Rattle.ssm_world.specs.declared.call.Call.{Call}
use Rattle.ssm_world.specs.declared.call.Call.TheVariants as call
use Rattle.ssm_world.specs.declared.event.Packet.{Packet}
use Rattle.ssm_world.specs.declared.event.WorldEvent.TheVariants.{Read}
use Rattle.ssm_world.specs.Sound.{asked_of, ReadIsSound}
use Rattle.ssm_world.specs.Worlds.{WorldValue, hear, next_of, history, history_at, with_history_at, with_new_call, with_call, is_new, bricks_of, may_read, reply_to, brick_after, step, IsMade}
use Rattle.ssm_world.proofs.Lists.{get_front, get_new, get_set_same}
use Rattle.ssm_world.proofs.Making.{step_made}
use Rattle.ssm_world.proofs.Tests.{both}
use Rattle.session_lanes.specs.Lane.{LaneState, lane_at, with_lane_at, with_reply}
use Rattle.session_lanes.specs.Lanes.{LanesState, after_event, turn_to, gone_on}
use Rattle.session_lanes.specs.Sound.{LanesAreOf}
use Rattle.session_steps.specs.Rule.{outcome_by_rule, asks_by_rule, found_or_lost, result_by_rule}
use Rattle.session_lanes.proofs.Ending.{Turned, Over, goes_over, made_is_sound}
use Rattle.session_steps.proofs.Expecting.{frame_at, frames_of, waiting_told, asked_told, frames_stay, lawful_to, reply_of, expected, begins_by_rule, elsewhere_same}
use Rattle.session_lanes.proofs.LaneLists.{lane_set_same, lane_set_other}
use Rattle.session_lanes.proofs.LanesStay.{PacketsStay, same_stay, last_numbered, two_more, lanes_same}
use Rattle.session_steps.proofs.ReadLists.{distinct_at, map_agree, map_set_agree, with_ears, all_heard_same, found_stays}
use Rattle.session_lanes.proofs.Turning.{with_both, more_silent, more_heard, sent_world, answered_world, turn_cases}

-- a history that is put back
history_back : (hs : List (List BrickEvent)) (k : ℕ) (h : List BrickEvent) → history_at hs k ≡ Some h → with_history_at hs k h ≡ hs
history_back hs zero h is = absurd (cc)
history_back hs (suc k) h is = slice_set-back hs k h is

-- whose turn it is, where it is that of this brick, in this stage
record TurnOf (turn : Option (Turn Holder)) (brick : BrickNo) (stage : Stage) : Type 0 where
  at : ℕ
  who : Holder
  turn_is : turn ≡ Some (record { at = at; who = who; stage = stage })
  brick_is : who.brick ≡ brick

to_ask : (turn : Option (Turn Holder)) (brick : BrickNo) → wanted (λ (holder : Holder). holder.brick) turn ≡ next.Send brick → TurnOf turn brick Unasked
to_ask None brick wants = absurd (cc)
to_ask (Some t) brick wants = go t.stage refl wants where
  go : (stage : Stage) → t.stage ≡ stage → wanted_of t.who.brick stage ≡ next.Send brick → TurnOf (Some t) brick Unasked
  go Unasked is wants = record { at = t.at; who = t.who; turn_is = ap (λ s. Some (record { at = t.at; who = t.who; stage = s })) is; brick_is = cc }
  go (Asked strays) is wants = absurd (cc)

to_hear : (turn : Option (Turn Holder)) (brick : BrickNo) → wanted (λ (holder : Holder). holder.brick) turn ≡ next.Receive brick → (strays : ℕ) × TurnOf turn brick (Asked strays)
to_hear None brick wants = absurd (cc)
to_hear (Some t) brick wants = go t.stage refl wants where
  go : (stage : Stage) → t.stage ≡ stage → wanted_of t.who.brick stage ≡ next.Receive brick → (strays : ℕ) × TurnOf (Some t) brick (Asked strays)
  go Unasked is wants = absurd (cc)
  go (Asked strays) is wants = (strays, record { at = t.at; who = t.who; turn_is = ap (λ s. Some (record { at = t.at; who = t.who; stage = s })) is; brick_is = cc })

module _ (nonce : Version) (now : Moment) (cookie : Cookie) (n : ℕ) where
  -- the read with these asks
  abbrev reads : List (Ask Holder ReadReply) → ReadState
  reads asks = record (read_start now nonce cookie) { asks = asks }

  -- those that are asked, each with what the read hears of it in the end
  abbrev expects : LanesState → List (Ask Holder ReadReply) → List (Ask Holder ReadReply)
  expects st asks = with_ears (λ holder ear. expected st nonce cookie holder ear) asks

  -- What holds of a read that goes on: it asks in order, what is expected stays, and histories too.
  record Reading (end : List (Ask Holder ReadReply)) (histories : List (List BrickEvent)) (st : LanesState) (c : Call) : Type 0 where
    asks : List (Ask Holder ReadReply)
    call_is : c ≡ call.Read (reads asks)
    in_order : InOrder asks
    expects_is : expects st asks ≡ end
    histories_are : st.world.histories ≡ histories

  -- A store after a turn of the read: one ask was told something, by which the same is expected, and all else stays
  record Hears (st : LanesState) (asks : List (Ask Holder ReadReply)) (at : ℕ) (who : Holder) (stage : Stage) (event : Told) (v : LanesState) : Type 0 where
    calls : v.world.calls ≡ slice_set st.world.calls n (hear (call.Read (reads asks)) event)
    packets : PacketsStay st.world v.world
    histories : v.world.histories ≡ st.world.histories
    lanes : (brick : ℕ) → (brick ≡ who.brick.0 → ⊥) → lane_at v.lanes brick ≡ lane_at st.lanes brick
    same : expected v nonce cookie who (heard (lawful_to nonce cookie who) stage event) ≡ expected st nonce cookie who (Open stage)

  module _ (st : LanesState) (asks : List (Ask Holder ReadReply)) (lanes : LanesAreOf st) (made : IsMade st.world) (there : slice_get st.world.calls n ≡ Some (call.Read (reads asks))) where
    abbrev c : Call
    c = call.Read (reads asks)

    sound : ReadIsSound st.world (reads asks)
    sound = (made_is_sound st.world made).calls n (call.Read (reads asks)) there

    brick_at : (i : ℕ) (a : Ask Holder ReadReply) → slice_get asks i ≡ Some a → slice_get (bricks_of (asked_of asks)) i ≡ Some a.who.brick
    brick_at i a at_i =
        slice_get-map (λ (holder : Holder). holder.brick) (asked_of asks) i
        ∙ ap (option_map (λ (holder : Holder). holder.brick)) (slice_get-map (λ (b : Ask Holder ReadReply). b.who) asks i)
        ∙ ap (λ o. option_map (λ (holder : Holder). holder.brick) (option_map (λ (b : Ask Holder ReadReply). b.who) o)) at_i

    differ : (i j : ℕ) (a b : Ask Holder ReadReply) → slice_get asks i ≡ Some a → slice_get asks j ≡ Some b → a.who.brick.0 ≡ b.who.brick.0 → i ≡ j
    differ i j a b at_i at_j same = distinct_at (bricks_of (asked_of asks)) (both _ _ sound.bricks).1 i j a.who.brick b.who.brick (brick_at i a at_i) (brick_at j b at_j) same

    -- what is expected stays, if it does so of the one whose turn it is
    expects_same : (at : ℕ) (who : Holder) (stage : Stage) (event : Told) (v : LanesState) → turn_of_read (reads asks) ≡ Some (record { at = at; who = who; stage = stage }) → Hears st asks at who stage event v
        → expects v (asks_after (lawful_to nonce cookie) event asks (turn_of_read (reads asks))) ≡ expects st asks
    expects_same at who stage event v turn hears =
        let t : Turn Holder = record { at = at; who = who; stage = stage } in
        let old : Ask Holder ReadReply = record { who = who; ear = Open stage } in
        let new : Ask Holder ReadReply = record { who = who; ear = heard (lawful_to nonce cookie who) stage event } in
        let stands : slice_get asks at ≡ Some old = turn_of_read-stands (reads asks) t turn in
        let E : LanesState → Ask Holder ReadReply → Ask Holder ReadReply = λ u ask. record ask { ear = expected u nonce cookie ask.who ask.ear } in
        let put : asks_after (lawful_to nonce cookie) event asks (turn_of_read (reads asks)) ≡ slice_set asks at new =
        ap (asks_after (lawful_to nonce cookie) event asks) turn ∙ with_ear-there asks at new.ear old stands in
        let here : E v new ≡ E st old = ap (λ (ear : Ear ReadReply). record old { ear = ear }) hears.same in
        ap (expects v) put
        ∙ map_set_agree (E v) (E st) asks at old new stands here
        (λ j a apart at_j.
        let other : a.who.brick.0 ≡ who.brick.0 → ⊥ = λ e. apart (differ j at a old at_j stands e) in
        ap (λ (ear : Ear ReadReply). record a { ear = ear })
        (elsewhere_same st v nonce cookie a.who a.ear lanes hears.packets (hears.lanes a.who.brick.0 other) (ap (λ hs. history_at hs a.who.brick.0) hears.histories)))

    -- so the turn keeps what holds
    told_one : (end : List (Ask Holder ReadReply)) (histories : List (List BrickEvent)) (at : ℕ) (who : Holder) (stage : Stage) (event : Told) (v : LanesState) → InOrder asks → expects st asks ≡ end → st.world.histories ≡ histories
        → turn_of_read (reads asks) ≡ Some (record { at = at; who = who; stage = stage }) → IsTrue (fits (wanted_of who.brick stage) event) → Hears st asks at who stage event v → Turned (Reading end histories) n c v
    told_one end histories at who stage event v in_order expects_is histories_are turn fit hears =
        let F : Option (Turn Holder) → Type 0 = λ t. IsTrue (fits (wanted (λ (holder : Holder). holder.brick) t) event) in
        let fitting : IsTrue (fits (read_next (reads asks)) event) = subst F (sym turn) fit in
        record {
          event = event;
          fitting = fitting;
          call_is = ap (λ cs. slice_get cs n) hears.calls ∙ get_set_same st.world.calls n (hear c event) c there;
          holds = record {
            asks = asks_after (lawful_to nonce cookie) event asks (turn_of_read (reads asks));
            call_is = refl;
            in_order = run_in_order (event ∷ []) (reads asks) (fitting, tt) in_order;
            expects_is = expects_same at who stage event v turn hears ∙ expects_is;
            histories_are = hears.histories ∙ histories_are;
          };
        }

    -- a brick whose ask is dropped or whose reply is lost tells the strays, and then silence
    silenced : (who : Holder) (lane new : LaneState) (v : LanesState) → lane_at st.lanes who.brick.0 ≡ Some lane → lane_at v.lanes who.brick.0 ≡ Some new → new.queue ≡ lane.queue → PacketsStay st.world v.world
        → (nat_lt 0 lane.to_drop || nat_lt 0 lane.to_lose) ≡ true → expected v nonce cookie who (Open (Asked 0)) ≡ expected st nonce cookie who (Open Unasked)
    silenced who lane new v at now queue stay test =
        let on : Ear ReadReply → List Told → Ear ReadReply = fold (heard_on (lawful_to nonce cookie who)) in
        let replies : Option Frame = reply_of st nonce cookie who in
        let fs : List (Option Frame) = frames_of st.world lane.queue in
        let left : on (Open (Asked 0)) (waiting_told v.world (lane_at v.lanes who.brick.0)) ≡ on (Open (Asked 0)) (map told.Came fs ++ told.Silent ∷ []) =
        ap (λ o. on (Open (Asked 0)) (waiting_told v.world o)) now
        ∙ ap (λ q. on (Open (Asked 0)) (map told.Came (frames_of v.world q) ++ told.Silent ∷ [])) queue
        ∙ ap (λ xs. on (Open (Asked 0)) (map told.Came xs ++ told.Silent ∷ [])) (frames_stay st.world v.world who.brick.0 lane.queue stay (lanes.queue who.brick.0 lane at)) in
        let right : on (Open Unasked) (asked_told st.world replies (lane_at st.lanes who.brick.0)) ≡ on (Open (Asked 0)) (map told.Came fs ++ told.Silent ∷ []) =
        ap (λ o. on (Open Unasked) (asked_told st.world replies o)) at
        ∙ ap (λ b. on (Open (Asked 0)) (map told.Came fs ++ (if b then told.Silent ∷ [] else told.Came replies ∷ told.Silent ∷ []))) test in
        left ∙ sym right

    -- one whose reply waits behind the others tells the strays, the reply, and then silence
    replying : (who : Holder) (lane : LaneState) (k : ℕ) (frame : Frame) (v : LanesState) → lane_at st.lanes who.brick.0 ≡ Some lane → lane_at v.lanes who.brick.0 ≡ Some (record lane { made = lane.made ++ k ∷ []; queue = lane.queue ++ k ∷ [] })
        → PacketsStay st.world v.world → frame_at v.world k ≡ Some frame → reply_of st nonce cookie who ≡ Some frame
        → (nat_lt 0 lane.to_drop || nat_lt 0 lane.to_lose) ≡ false → expected v nonce cookie who (Open (Asked 0)) ≡ expected st nonce cookie who (Open Unasked)
    replying who lane k frame v at now stay framed replies test =
        let on : Ear ReadReply → List Told → Ear ReadReply = fold (heard_on (lawful_to nonce cookie who)) in
        let fs : List (Option Frame) = frames_of st.world lane.queue in
        let strays : frames_of v.world lane.queue ≡ fs = frames_stay st.world v.world who.brick.0 lane.queue stay (lanes.queue who.brick.0 lane at) in
        let all : frames_of v.world (lane.queue ++ k ∷ []) ≡ fs ++ Some frame ∷ [] =
        map-append (frame_at v.world) lane.queue (k ∷ []) ∙ (λ i. strays i ++ framed i ∷ []) in
        let tells : map told.Came (fs ++ Some frame ∷ []) ++ told.Silent ∷ [] ≡ map told.Came fs ++ told.Came (Some frame) ∷ told.Silent ∷ [] =
        ap (λ xs. xs ++ told.Silent ∷ []) (map-append told.Came fs (Some frame ∷ [])) ∙ append_assoc (map told.Came fs) (told.Came (Some frame) ∷ []) (told.Silent ∷ []) in
        let left : on (Open (Asked 0)) (waiting_told v.world (lane_at v.lanes who.brick.0)) ≡ on (Open (Asked 0)) (map told.Came fs ++ told.Came (Some frame) ∷ told.Silent ∷ []) =
        ap (λ o. on (Open (Asked 0)) (waiting_told v.world o)) now
        ∙ ap (λ xs. on (Open (Asked 0)) (map told.Came xs ++ told.Silent ∷ [])) all
        ∙ ap (on (Open (Asked 0))) tells in
        let right : on (Open Unasked) (asked_told st.world (reply_of st nonce cookie who) (lane_at st.lanes who.brick.0)) ≡ on (Open (Asked 0)) (map told.Came fs ++ told.Came (Some frame) ∷ told.Silent ∷ []) =
        ap (λ o. on (Open Unasked) (asked_told st.world (reply_of st nonce cookie who) o)) at
        ∙ ap (λ b. on (Open (Asked 0)) (map told.Came fs ++ (if b then told.Silent ∷ [] else told.Came (reply_of st nonce cookie who) ∷ told.Silent ∷ []))) test
        ∙ ap (λ r. on (Open (Asked 0)) (map told.Came fs ++ told.Came r ∷ told.Silent ∷ [])) replies in
        left ∙ sym right

    answering : (who : Holder) (lane : LaneState) (k : ℕ) (frame : Frame) (v : LanesState) → lane_at st.lanes who.brick.0 ≡ Some lane → lane_at v.lanes who.brick.0 ≡ Some (with_reply k lane) → PacketsStay st.world v.world → frame_at v.world k ≡ Some frame → reply_of st nonce cookie who ≡ Some frame
        → nat_lt 0 lane.to_drop ≡ false → expected v nonce cookie who (Open (Asked 0)) ≡ expected st nonce cookie who (Open Unasked)
    answering who lane k frame v at now stay framed replies undropped = go (nat_lt 0 lane.to_lose) refl now where
      go : (b : Bool) → nat_lt 0 lane.to_lose ≡ b
          → lane_at v.lanes who.brick.0 ≡ Some (if b then record lane { to_lose = lane.to_lose - 1; made = lane.made ++ k ∷ [] } else record lane { made = lane.made ++ k ∷ []; queue = lane.queue ++ k ∷ [] })
          → expected v nonce cookie who (Open (Asked 0)) ≡ expected st nonce cookie who (Open Unasked)
      go true is now = silenced who lane (record lane { to_lose = lane.to_lose - 1; made = lane.made ++ k ∷ [] }) v at now refl stay (λ i. undropped i || is i)
      go false is now = replying who lane k frame v at now stay framed replies (λ i. undropped i || is i)

    -- what is heard after a frame goes on by those that wait
    comes : (v : LanesState) (who : Holder) (strays : ℕ) (r : Option ReadReply) → expected v nonce cookie who (after_frame (Asked strays) r) ≡ fold (heard_on (lawful_to nonce cookie who)) (after_frame (Asked strays) r) (waiting_told v.world (lane_at v.lanes who.brick.0))
    comes v who strays r = go r where
      strayed : (b : Bool) → expected v nonce cookie who (if b then Open (Asked (strays + 1)) else Heard outcomes.Strayed) ≡ fold (heard_on (lawful_to nonce cookie who)) (if b then Open (Asked (strays + 1)) else Heard outcomes.Strayed) (waiting_told v.world (lane_at v.lanes who.brick.0))
      strayed true = refl
      strayed false = sym (heard_stays (lawful_to nonce cookie who) outcomes.Strayed (waiting_told v.world (lane_at v.lanes who.brick.0)))

      go : (r : Option ReadReply) → expected v nonce cookie who (after_frame (Asked strays) r) ≡ fold (heard_on (lawful_to nonce cookie who)) (after_frame (Asked strays) r) (waiting_told v.world (lane_at v.lanes who.brick.0))
      go (Some answer) = sym (heard_stays (lawful_to nonce cookie who) (outcomes.Answered answer) (waiting_told v.world (lane_at v.lanes who.brick.0)))
      go None = strayed (nat_lt strays 63)

    -- a frame that comes is one of those that wait
    coming : (who : Holder) (lane : LaneState) (strays packet : ℕ) (rest : List ℕ) (p : Packet) (v : LanesState) → lane_at st.lanes who.brick.0 ≡ Some lane → lane.queue ≡ packet ∷ rest → slice_get st.world.packets packet ≡ Some p
        → lane_at v.lanes who.brick.0 ≡ Some (record lane { queue = rest }) → v.world.packets ≡ st.world.packets
        → expected v nonce cookie who (heard (lawful_to nonce cookie who) (Asked strays) (told.Came (Some p.frame))) ≡ expected st nonce cookie who (Open (Asked strays))
    coming who lane strays packet rest p v at queue is now packets =
        let on : Ear ReadReply → List Told → Ear ReadReply = fold (heard_on (lawful_to nonce cookie who)) in
        let ear : Ear ReadReply = after_frame (Asked strays) (option_and_then (lawful_to nonce cookie who) (Some p.frame)) in
        let left : expected v nonce cookie who ear ≡ on ear (map told.Came (frames_of st.world rest) ++ told.Silent ∷ []) =
        comes v who strays (option_and_then (lawful_to nonce cookie who) (Some p.frame))
        ∙ ap (λ o. on ear (waiting_told v.world o)) now
        ∙ ap (λ ps. on ear (map told.Came (frames_of (record v.world { packets = ps }) rest) ++ told.Silent ∷ [])) packets in
        let right : expected st nonce cookie who (Open (Asked strays)) ≡ on ear (map told.Came (frames_of st.world rest) ++ told.Silent ∷ []) =
        ap (λ o. on (Open (Asked strays)) (waiting_told st.world o)) at
        ∙ ap (λ q. on (Open (Asked strays)) (map told.Came (frames_of st.world q) ++ told.Silent ∷ [])) queue
        ∙ ap (λ o. on (after_frame (Asked strays) (option_and_then (lawful_to nonce cookie who) (option_map (λ (x : Packet). x.frame) o))) (map told.Came (frames_of st.world rest) ++ told.Silent ∷ [])) is in
        left ∙ sym right

    module _ (end : List (Ask Holder ReadReply)) (histories : List (List BrickEvent)) (in_order : InOrder asks) (expects_is : expects st asks ≡ end) (histories_are : st.world.histories ≡ histories) (more : read_next (reads asks) ≡ next.Ended → ⊥) where
      abbrev T : LanesState → Type 0
      T v = Turned (Reading end histories) n c v

      abbrev turn : Option (Turn Holder)
      turn = turn_of_read (reads asks)

      unsent : (brick : BrickNo) (at : ℕ) (who : Holder) → turn ≡ Some (record { at = at; who = who; stage = Unasked }) → lane_at st.lanes who.brick.0 ≡ None → T (with_both (more_silent st brick) (with_call st.world n (hear c told.Silent)) st.lanes)
      unsent brick at who turn_is lane = told_one end histories at who Unasked told.Silent _ in_order expects_is histories_are turn_is refl (record {
        calls = refl;
        packets = same_stay st.world;
        histories = refl;
        lanes = λ b apart. refl;
        same = sym (ap (λ o. fold (heard_on (lawful_to nonce cookie who)) (Open Unasked) (asked_told st.world (reply_of st nonce cookie who) o)) lane);
      })

      dropped : (at : ℕ) (who : Holder) (lane : LaneState) → turn ≡ Some (record { at = at; who = who; stage = Unasked }) → lane_at st.lanes who.brick.0 ≡ Some lane → nat_lt 0 lane.to_drop ≡ true
          → T (with_both st (sent_world st.world n c who.brick) (with_lane_at st.lanes who.brick.0 (record lane { to_drop = lane.to_drop - 1 })))
      dropped at who lane turn_is lane_is drops =
          let new : LaneState = record lane { to_drop = lane.to_drop - 1 } in
          let v : LanesState = with_both st (sent_world st.world n c who.brick) (with_lane_at st.lanes who.brick.0 new) in
          let stay : PacketsStay st.world v.world = λ i p is. get_front st.world.packets _ i p is in
          told_one end histories at who Unasked told.Sent v in_order expects_is histories_are turn_is refl (record {
            calls = refl;
            packets = stay;
            histories = refl;
            lanes = λ b apart. lane_set_other st.lanes who.brick.0 new b apart;
            same = silenced who lane new v lane_is (lane_set_same st.lanes who.brick.0 new lane lane_is) refl stay (λ i. drops i || nat_lt 0 lane.to_lose);
          })

      answered : (at : ℕ) (who : Holder) (lane : LaneState) (h : List BrickEvent) (frame : Frame) → turn ≡ Some (record { at = at; who = who; stage = Unasked }) → lane_at st.lanes who.brick.0 ≡ Some lane → nat_lt 0 lane.to_drop ≡ false
          → history st.world who.brick ≡ Some h → reply (brick_after who.brick h) (Get nonce cookie.key cookie.version) ≡ Some frame
          → T (with_both st (answered_world st.world n c who.brick h frame) (with_lane_at st.lanes who.brick.0 (with_reply (length st.world.packets + 1) lane)))
      answered at who lane h frame turn_is lane_is undropped now gives =
          let k : ℕ = length st.world.packets + 1 in
          let new : LaneState = with_reply k lane in
          let v : LanesState = with_both st (answered_world st.world n c who.brick h frame) (with_lane_at st.lanes who.brick.0 new) in
          let request : Packet = record { brick = who.brick; frame = Get nonce cookie.key cookie.version } in
          let last : Packet = record { brick = who.brick; frame = frame } in
          let stay : PacketsStay st.world v.world = two_more st.world v.world request last refl in
          let framed : frame_at v.world k ≡ Some frame = ap (option_map (λ (x : Packet). x.frame)) (last_numbered st.world v.world request last refl) in
          told_one end histories at who Unasked told.Sent v in_order expects_is histories_are turn_is refl (record {
            calls = refl;
            packets = stay;
            histories = history_back st.world.histories who.brick.0 h now;
            lanes = λ b apart. lane_set_other st.lanes who.brick.0 new b apart;
            same = answering who lane k frame v lane_is (lane_set_same st.lanes who.brick.0 new lane lane_is) stay framed (ap (reply_to request) now ∙ gives) undropped;
          })

      laneless : (brick : BrickNo) (at : ℕ) (who : Holder) (strays : ℕ) → turn ≡ Some (record { at = at; who = who; stage = Asked strays }) → lane_at st.lanes who.brick.0 ≡ None → T (with_both (more_silent st brick) (with_call st.world n (hear c told.Silent)) st.lanes)
      laneless brick at who strays turn_is lane = told_one end histories at who (Asked strays) told.Silent _ in_order expects_is histories_are turn_is refl (record {
        calls = refl;
        packets = same_stay st.world;
        histories = refl;
        lanes = λ b apart. refl;
        same = sym (ap (λ o. fold (heard_on (lawful_to nonce cookie who)) (Open (Asked strays)) (waiting_told st.world o)) lane);
      })

      silent : (brick : BrickNo) (at : ℕ) (who : Holder) (strays : ℕ) (lane : LaneState) → turn ≡ Some (record { at = at; who = who; stage = Asked strays }) → lane_at st.lanes who.brick.0 ≡ Some lane → lane.queue ≡ [] → T (with_both (more_silent st brick) (with_call st.world n (hear c told.Silent)) st.lanes)
      silent brick at who strays lane turn_is lane_is empty = told_one end histories at who (Asked strays) told.Silent _ in_order expects_is histories_are turn_is refl (record {
        calls = refl;
        packets = same_stay st.world;
        histories = refl;
        lanes = λ b apart. refl;
        same = sym (ap (λ o. fold (heard_on (lawful_to nonce cookie who)) (Open (Asked strays)) (waiting_told st.world o)) lane_is
            ∙ ap (λ q. fold (heard_on (lawful_to nonce cookie who)) (Open (Asked strays)) (map told.Came (frames_of st.world q) ++ told.Silent ∷ [])) empty);
      })

      came : (at : ℕ) (who : Holder) (strays : ℕ) (lane : LaneState) (packet : ℕ) (rest : List ℕ) (p : Packet) → turn ≡ Some (record { at = at; who = who; stage = Asked strays }) → lane_at st.lanes who.brick.0 ≡ Some lane → lane.queue ≡ packet ∷ rest → slice_get st.world.packets packet ≡ Some p
          → T (with_both (more_heard st) (with_call st.world n (hear c (told.Came (Some p.frame)))) (with_lane_at st.lanes who.brick.0 (record lane { queue = rest })))
      came at who strays lane packet rest p turn_is lane_is queue is =
          let new : LaneState = record lane { queue = rest } in
          let v : LanesState = with_both (more_heard st) (with_call st.world n (hear c (told.Came (Some p.frame)))) (with_lane_at st.lanes who.brick.0 new) in
          told_one end histories at who (Asked strays) (told.Came (Some p.frame)) v in_order expects_is histories_are turn_is refl (record {
            calls = refl;
            packets = same_stay st.world;
            histories = refl;
            lanes = λ b apart. lane_set_other st.lanes who.brick.0 new b apart;
            same = coming who lane strays packet rest p v lane_is queue is (lane_set_same st.lanes who.brick.0 new lane lane_is) refl;
          })

      turned : Turned (Reading end histories) n c (turn_to st n (read_next (reads asks)))
      turned = turn_cases T st n c lanes refl there (record {
        ended = λ wants. absurd (more wants);
        unsent = λ brick wants at. (
            let t = to_ask turn brick wants in
            unsent brick t.at t.who t.turn_is (ap (λ (b : BrickNo). lane_at st.lanes b.0) t.brick_is ∙ at));
        dropped = λ brick lane wants at drops. (
            let t = to_ask turn brick wants in
            let Q : BrickNo → Type 0 = λ b. T (with_both st (sent_world st.world n c b) (with_lane_at st.lanes b.0 (record lane { to_drop = lane.to_drop - 1 }))) in
            subst Q t.brick_is (dropped t.at t.who lane t.turn_is (ap (λ (b : BrickNo). lane_at st.lanes b.0) t.brick_is ∙ at) drops));
        answered = λ brick lane h frame wants at undropped now gives. (
            let t = to_ask turn brick wants in
            let Q : BrickNo → Type 0 = λ b. T (with_both st (answered_world st.world n c b h frame) (with_lane_at st.lanes b.0 (with_reply (length st.world.packets + 1) lane))) in
            subst Q t.brick_is (answered t.at t.who lane h frame t.turn_is (ap (λ (b : BrickNo). lane_at st.lanes b.0) t.brick_is ∙ at) undropped (ap (history st.world) t.brick_is ∙ now)
            (ap (λ b. reply (brick_after b h) (Get nonce cookie.key cookie.version)) t.brick_is ∙ gives)));
        laneless = λ brick wants at. (
            let t = to_hear turn brick wants in
            laneless brick t.1.at t.1.who t.0 t.1.turn_is (ap (λ (b : BrickNo). lane_at st.lanes b.0) t.1.brick_is ∙ at));
        silent = λ brick lane wants at empty. (
            let t = to_hear turn brick wants in
            silent brick t.1.at t.1.who t.0 lane t.1.turn_is (ap (λ (b : BrickNo). lane_at st.lanes b.0) t.1.brick_is ∙ at) empty);
        came = λ brick lane packet rest p wants at queue is. (
            let t = to_hear turn brick wants in
            let Q : BrickNo → Type 0 = λ b. T (with_both (more_heard st) (with_call st.world n (hear c (told.Came (Some p.frame)))) (with_lane_at st.lanes b.0 (record lane { queue = rest }))) in
            subst Q t.1.brick_is (came t.1.at t.1.who t.0 lane packet rest p t.1.turn_is (ap (λ (b : BrickNo). lane_at st.lanes b.0) t.1.brick_is ∙ at) queue is));
      })

  -- each turn of the read keeps what holds
  read_turned : (end : List (Ask Holder ReadReply)) (histories : List (List BrickEvent)) (st : LanesState) (c : Call) → LanesAreOf st → IsMade st.world → slice_get st.world.calls n ≡ Some c → (next_of c ≡ next.Ended → ⊥) → Reading end histories st c
      → Turned (Reading end histories) n c (turn_to st n (next_of c))
  read_turned end histories st c lanes made there more reading =
      let P : Call → Type 0 = λ d. slice_get st.world.calls n ≡ Some d → (next_of d ≡ next.Ended → ⊥) → Turned (Reading end histories) n d (turn_to st n (next_of d)) in
      let mine : P (call.Read (reads reading.asks)) = λ there more. turned st reading.asks lanes made there end histories reading.in_order reading.expects_is reading.histories_are more in
      subst P (sym reading.call_is) mine there more

  -- the answer of a read that wants nothing more, by what is expected
  in_time : (st : LanesState) (asks : List (Ask Holder ReadReply)) → InOrder asks → read_next (reads asks) ≡ next.Ended → nat_lt cookie.expiry.0 now.0 ≡ false
      → read_answer (reads asks) ≡ Some (found_or_lost (found_in (expects st asks)) (filter_map loss_of (expects st asks)))
  in_time st asks in_order over early = go (found_in asks) refl (turn_in_order asks) refl where
    answer : (found : Option (List ℕ)) (turn : Option (Turn Holder)) → found_in asks ≡ found → turn_in_order asks ≡ turn → read_answer (reads asks) ≡ found_or found (lost_unless turn (filter_map loss_of asks))
    answer found turn found_is turn_is =
        ap (λ b. if b then Some (Err (Expired now cookie.expiry)) else found_or (found_in asks) (lost_unless (turn_in_order asks) (filter_map loss_of asks))) early
        ∙ ap (λ o. found_or o (lost_unless (turn_in_order asks) (filter_map loss_of asks))) found_is
        ∙ ap (λ t. found_or found (lost_unless t (filter_map loss_of asks))) turn_is

    none : turn_of_read (reads asks) ≡ None
    none = wanted-ended (λ (holder : Holder). holder.brick) (turn_of_read (reads asks)) over

    keeps : (who : Holder) (outcome : Outcome ReadReply) → expected st nonce cookie who (Heard outcome) ≡ Heard outcome
    keeps who outcome = refl

    go : (found : Option (List ℕ)) → found_in asks ≡ found → (turn : Option (Turn Holder)) → turn_in_order asks ≡ turn → read_answer (reads asks) ≡ Some (found_or_lost (found_in (expects st asks)) (filter_map loss_of (expects st asks)))
    go (Some value) found_is turn turn_is =
        answer (Some value) turn found_is turn_is
        ∙ ap (λ o. Some (found_or_lost o (filter_map loss_of (expects st asks)))) (sym (found_stays (λ holder ear. expected st nonce cookie holder ear) asks value keeps in_order found_is))
    go None found_is (Some t) turn_is = absurd (
        let turned : turn_of_read (reads asks) ≡ Some t =
        ap (λ o. turn_unless o (turn_in_order asks)) (answer None (Some t) found_is turn_is) ∙ turn_is in
        let e : None ≡ Some t = sym none ∙ turned in
        cc)
    go None found_is None turn_is =
        let same : expects st asks ≡ asks = all_heard_same (λ holder ear. expected st nonce cookie holder ear) asks keeps (all_heard_in_order asks turn_is) in
        answer None None found_is turn_is
        ∙ ap (λ o. Some (found_or_lost o (filter_map loss_of asks))) (sym found_is)
        ∙ ap (λ xs. Some (found_or_lost (found_in xs) (filter_map loss_of xs))) (sym same)

  -- what is expected before the read is told anything
  begins : (st : LanesState) (holders : List Holder) → IsMade st.world → LanesAreOf st → is_new st.world nonce ≡ true
      → expects st (none_asked holders) ≡ map (λ (holder : Holder). record { who = holder; ear = Heard (outcome_by_rule st nonce cookie holder) }) holders
  begins st [] made lanes new = refl
  begins st (holder ∷ holders) made lanes new =
      let first : expected st nonce cookie holder (Open Unasked) ≡ Heard (outcome_by_rule st nonce cookie holder) = begins_by_rule st nonce cookie holder made lanes new in
      λ i. record { who = holder; ear = first i } ∷ begins st holders made lanes new i

-- what is expected when the read has begun is by the rule
starts_by_rule : (st : LanesState) (nonce : Version) (now : Moment) (cookie : Cookie) (n : ℕ) → IsMade st.world → LanesAreOf st → is_new st.world nonce ≡ true
    → expects nonce now cookie n (with_both st (with_new_call st.world (call.Read (read_start now nonce cookie))) st.lanes) (none_asked cookie.bricks) ≡ asks_by_rule st nonce cookie
starts_by_rule st nonce now cookie n made lanes new =
    let u : LanesState = with_both st (with_new_call st.world (call.Read (read_start now nonce cookie))) st.lanes in
    map_agree _ _ (none_asked cookie.bricks) (λ j a at. ap (λ (ear : Ear ReadReply). record a { ear = ear }) (elsewhere_same st u nonce cookie a.who a.ear lanes (same_stay st.world) refl refl))
    ∙ begins nonce now cookie n st cookie.bricks made lanes new

answer_is : (st v : LanesState) (nonce : Version) (now : Moment) (cookie : Cookie) (n : ℕ) (asks : List (Ask Holder ReadReply)) → InOrder asks → read_next (record (read_start now nonce cookie) { asks = asks }) ≡ next.Ended → expects nonce now cookie n v asks ≡ asks_by_rule st nonce cookie
    → read_answer (record (read_start now nonce cookie) { asks = asks }) ≡ Some (result_by_rule st nonce now cookie)
answer_is st v nonce now cookie n asks in_order over expects_is = go (nat_lt cookie.expiry.0 now.0) refl where
  late : Bool → Option (Result (List ℕ) ReadRefusal)
  late b = if b then Some (Err (Expired now cookie.expiry)) else found_or (found_in asks) (lost_unless (turn_in_order asks) (filter_map loss_of asks))

  by_rule : Bool → Result (List ℕ) ReadRefusal
  by_rule b = if b then Err (Expired now cookie.expiry) else found_or_lost (found_in (asks_by_rule st nonce cookie)) (filter_map loss_of (asks_by_rule st nonce cookie))

  go : (b : Bool) → nat_lt cookie.expiry.0 now.0 ≡ b → read_answer (record (read_start now nonce cookie) { asks = asks }) ≡ Some (result_by_rule st nonce now cookie)
  go true is = ap late is ∙ ap (λ b. Some (by_rule b)) (sym is)
  go false is =
      in_time nonce now cookie n v asks in_order over is
      ∙ ap (λ xs. Some (found_or_lost (found_in xs) (filter_map loss_of xs))) expects_is
      ∙ ap (λ b. Some (by_rule b)) (sym is)

-- What a read that was made of a store comes to: its answer is by the rule, and no history has changed.
pub record ReadsByRule (st : LanesState) (nonce : Version) (now : Moment) (cookie : Cookie) (v : LanesState) : Type 0 where
  pub read : ReadState
  pub there : slice_get v.world.calls (length st.world.calls) ≡ Some (call.Read read)
  pub answers : read_answer read ≡ Some (result_by_rule st nonce now cookie)
  pub histories : v.world.histories ≡ st.world.histories

pub reads_by_rule : (st : LanesState) (nonce : Version) (now : Moment) (cookie : Cookie) → IsMade st.world → LanesAreOf st → may_read st.world nonce cookie.bricks ≡ true
    → ReadsByRule st nonce now cookie (gone_on (after_event st (Read nonce now cookie)) (length st.world.calls))
reads_by_rule st nonce now cookie made lanes may =
    let n : ℕ = length st.world.calls in
    let first : Call = call.Read (read_start now nonce cookie) in
    let w : WorldValue = with_new_call st.world first in
    let begun : step st.world (Read nonce now cookie) ≡ w = ap (λ b. if b then with_new_call st.world first else st.world) may in
    let u : LanesState = with_both st w st.lanes in
    let u_made : IsMade w = subst IsMade begun (step_made st.world (Read nonce now cookie) made) in
    let u_lanes : LanesAreOf u = lanes_same st w refl (same_stay st.world) lanes in
    let end : List (Ask Holder ReadReply) = expects nonce now cookie n u (none_asked cookie.bricks) in
    let over : Over (Reading nonce now cookie n end st.world.histories) n (gone_on u n) =
    goes_over (Reading nonce now cookie n end st.world.histories) n (read_turned nonce now cookie n end st.world.histories) u first u_lanes u_made (get_new st.world.calls first) (record {
      asks = none_asked cookie.bricks;
      call_is = refl;
      in_order = started_in_order cookie.bricks;
      expects_is = refl;
      histories_are = refl;
    }) in
    let asks : List (Ask Holder ReadReply) = over.holds.asks in
    let read : ReadState = record (read_start now nonce cookie) { asks = asks } in
    let is_over : read_next read ≡ next.Ended = ap next_of (sym over.holds.call_is) ∙ over.over in
    let end_is : end ≡ asks_by_rule st nonce cookie = starts_by_rule st nonce now cookie n made lanes (both _ _ may).0 in
    let v : LanesState = gone_on u n in
    let R : WorldValue → Type 0 = λ x. ReadsByRule st nonce now cookie (gone_on (with_both st x st.lanes) n) in
    subst R (sym begun) (record {
      read = read;
      there = over.there ∙ ap (λ d. Some d) over.holds.call_is;
      answers = answer_is st v nonce now cookie n asks over.holds.in_order is_over (over.holds.expects_is ∙ end_is);
      histories = over.holds.histories_are;
    })

pub read_by_rule : (st : LanesState) (nonce : Version) (now : Moment) (cookie : Cookie) → IsMade st.world → LanesAreOf st → may_read st.world nonce cookie.bricks ≡ true
    → (read : ReadState) × (slice_get (gone_on (after_event st (Read nonce now cookie)) (length st.world.calls)).world.calls (length st.world.calls) ≡ Some (call.Read read)) × (read_answer read ≡ Some (result_by_rule st nonce now cookie))
read_by_rule st nonce now cookie made lanes may =
    let by : ReadsByRule st nonce now cookie (gone_on (after_event st (Read nonce now cookie)) (length st.world.calls)) = reads_by_rule st nonce now cookie made lanes may in
    (by.read, by.there, by.answers)
