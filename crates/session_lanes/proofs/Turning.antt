-- What a turn of a call comes to.
use Rattle.std.proofs.Common.{◌≡◌, ℕ, ◌+◌, ◌-◌, ◌==◌, ◌&&◌, Bool, true, false, not, nat_lt, if◌then◌else◌, List, [], ◌∷◌, length, Option, Some, None, All, refl, sym, ap, subst, ◌∙◌}
use Rattle.std.specs.Prelude.{slice_get}
use Rattle.std.proofs.lemmas.List.Elements.{All-head}
use Rattle.crash_base.specs.declared.numbers.BrickNo.{BrickNo}
use Rattle.ssm_frames.specs.declared.frame.Frame.{Frame}
use Rattle.ssm_frames.specs.declared.frame.Frame.TheVariants.{Put, Get, Sweep, Stored, Found, Absent, BrickFull, Swept}
use Rattle.ssm_frames.specs.Requests.{is_request}
use Rattle.brick_store.specs.declared.event.BrickEvent.{BrickEvent}
use Rattle.brick_store.specs.Bricks.{BrickValue, reply}
use Rattle.brick_store.specs.Standing.{heard}
use Rattle.ssm_stub.specs.declared.event.StubNext.{StubNext}
use Rattle.ssm_stub.specs.declared.event.StubNext.TheVariants as next
use Rattle.ssm_stub.specs.declared.event.Told.TheVariants as told
use Rattle.ssm_world.specs.declared.call.Call.{Call}
use Rattle.ssm_world.specs.declared.event.Packet.{Packet}
use Rattle.ssm_world.specs.declared.event.WorldEvent.TheVariants.{Send, Deliver, Hear, Hush}
use Rattle.ssm_world.specs.Worlds.{WorldValue, ask_of, next_of, hear, history, with_history, with_packet, with_sent, with_call, same_brick, told_by_send, told_by_hush, told_by_packet, packet_by_send, with_told, sent, came, hushed, brick_after, replied, reached, delivered, step}
use Rattle.ssm_world.proofs.Lists.{get_new}
use Rattle.ssm_world.proofs.Tests.{number_same}
use Rattle.session_lanes.specs.Counts.{silent_by, frame_got}
use Rattle.session_lanes.specs.Lane.{LaneState, lane_at, with_lane_at, with_reply}
use Rattle.session_lanes.specs.Lanes.{LanesState, after_event, with_counts, with_lane, asks, hears, listens, turn_to}
use Rattle.session_lanes.specs.Sound.{IsReplyOf, LanesAreOf}
use Rattle.session_lanes.proofs.LaneLists.{lane_history}

-- a store with this world and these lanes
abbrev pub with_both : LanesState → WorldValue → List LaneState → LanesState
with_both st w lanes = record st { world = w; lanes = lanes }

-- the lanes where a brick was silent once more
abbrev pub more_silent : LanesState → BrickNo → LanesState
more_silent st brick = with_counts st (silent_by brick.0 st.counts)

-- the lanes where a frame was heard more
abbrev pub more_heard : LanesState → LanesState
more_heard st = with_counts st (frame_got st.counts)

-- a world where a call was told that its ask was sent, and the ask is a packet
abbrev pub sent_world : WorldValue → ℕ → Call → BrickNo → WorldValue
sent_world w n c brick = with_packet (with_call w n (hear c told.Sent)) (record { brick = brick; frame = ask_of c })

-- that world after the brick of this history replied to the ask
abbrev pub answered_world : WorldValue → ℕ → Call → BrickNo → List BrickEvent → Frame → WorldValue
answered_world w n c brick h frame =
    with_packet (with_history (sent_world w n c brick) brick (heard h (ask_of c))) (record { brick = brick; frame = frame })

-- What is shown of each store that a turn can come to.
pub record Cases (P : LanesState → Type 0) (st : LanesState) (n : ℕ) (c : Call) : Type 0 where
  pub ended : next_of c ≡ next.Ended → P st
  pub unsent : (brick : BrickNo) → next_of c ≡ next.Send brick → lane_at st.lanes brick.0 ≡ None → P (with_both (more_silent st brick) (with_call st.world n (hear c told.Silent)) st.lanes)
  pub dropped : (brick : BrickNo) (lane : LaneState) → next_of c ≡ next.Send brick → lane_at st.lanes brick.0 ≡ Some lane → nat_lt 0 lane.to_drop ≡ true
      → P (with_both st (sent_world st.world n c brick) (with_lane_at st.lanes brick.0 (record lane { to_drop = lane.to_drop - 1 })))
  pub answered : (brick : BrickNo) (lane : LaneState) (h : List BrickEvent) (frame : Frame) → next_of c ≡ next.Send brick → lane_at st.lanes brick.0 ≡ Some lane → nat_lt 0 lane.to_drop ≡ false
      → history st.world brick ≡ Some h → reply (brick_after brick h) (ask_of c) ≡ Some frame
      → P (with_both st (answered_world st.world n c brick h frame) (with_lane_at st.lanes brick.0 (with_reply (length st.world.packets + 1) lane)))
  pub laneless : (brick : BrickNo) → next_of c ≡ next.Receive brick → lane_at st.lanes brick.0 ≡ None → P (with_both (more_silent st brick) (with_call st.world n (hear c told.Silent)) st.lanes)
  pub silent : (brick : BrickNo) (lane : LaneState) → next_of c ≡ next.Receive brick → lane_at st.lanes brick.0 ≡ Some lane → lane.queue ≡ [] → P (with_both (more_silent st brick) (with_call st.world n (hear c told.Silent)) st.lanes)
  pub came : (brick : BrickNo) (lane : LaneState) (packet : ℕ) (rest : List ℕ) (p : Packet) → next_of c ≡ next.Receive brick → lane_at st.lanes brick.0 ≡ Some lane → lane.queue ≡ packet ∷ rest
      → slice_get st.world.packets packet ≡ Some p
      → P (with_both (more_heard st) (with_call st.world n (hear c (told.Came (Some p.frame)))) (with_lane_at st.lanes brick.0 (record lane { queue = rest })))

sent_is : (w : WorldValue) (n : ℕ) (c : Call) (brick : BrickNo) → slice_get w.calls n ≡ Some c → next_of c ≡ next.Send brick → step w (Send n false true) ≡ sent_world w n c brick
sent_is w n c brick there wants =
    ap (sent w n false true) there ∙ ap (λ x. with_sent (with_told w n c (told_by_send false x)) (packet_by_send true (ask_of c) x)) wants

unsent_is : (w : WorldValue) (n : ℕ) (c : Call) (brick : BrickNo) → slice_get w.calls n ≡ Some c → next_of c ≡ next.Send brick → step w (Send n true false) ≡ with_call w n (hear c told.Silent)
unsent_is w n c brick there wants =
    ap (sent w n true false) there ∙ ap (λ x. with_sent (with_told w n c (told_by_send true x)) (packet_by_send false (ask_of c) x)) wants

hushed_is : (w : WorldValue) (n : ℕ) (c : Call) (brick : BrickNo) → slice_get w.calls n ≡ Some c → next_of c ≡ next.Receive brick → step w (Hush n) ≡ with_call w n (hear c told.Silent)
hushed_is w n c brick there wants = ap (hushed w n) there ∙ ap (λ x. with_told w n c (told_by_hush x)) wants

came_is : (w : WorldValue) (n : ℕ) (c : Call) (brick : BrickNo) (i : ℕ) (p : Packet) → slice_get w.calls n ≡ Some c → next_of c ≡ next.Receive brick → slice_get w.packets i ≡ Some p → p.brick.0 ≡ brick.0 → is_request p.frame ≡ false
    → step w (Hear n i) ≡ with_call w n (hear c (told.Came (Some p.frame)))
came_is w n c brick i p there wants packet its replies =
    let same : same_brick p.brick brick ≡ true = ap (λ k. k == brick.0) its ∙ number_same brick.0 in
    let test : (same_brick p.brick brick && not (is_request p.frame)) ≡ true = λ l. same l && not (replies l) in
    ap (λ o. came w n o (slice_get w.calls n)) packet
    ∙ ap (came w n (Some p)) there
    ∙ ap (λ x. with_told w n c (told_by_packet (Some p) x)) wants
    ∙ ap (λ b. with_told w n c (if b then Some (told.Came (Some p.frame)) else None)) test

delivered_is : (w : WorldValue) (i : ℕ) (p : Packet) (h : List BrickEvent) (frame : Frame) → slice_get w.packets i ≡ Some p → history w p.brick ≡ Some h → reply (brick_after p.brick h) p.frame ≡ Some frame
    → step w (Deliver i) ≡ with_packet (with_history w p.brick (heard h p.frame)) (record { brick = p.brick; frame = frame })
delivered_is w i p h frame there now replies = ap (delivered w) there ∙ ap (reached w p) now ∙ ap (replied w p h) replies

-- a brick replies to each request
pub replies_to_requests : (b : BrickValue) (frame : Frame) → is_request frame ≡ true → (answer : Frame) × (reply b frame ≡ Some answer)
replies_to_requests b (Put n k v expiry value) is = (_, refl)
replies_to_requests b (Get n k v) is = (_, refl)
replies_to_requests b (Sweep n moment) is = (_, refl)
replies_to_requests b (Stored n k v brick i) is = absurd (cc)
replies_to_requests b (Found n k v brick i expiry value) is = absurd (cc)
replies_to_requests b (Absent n k v brick i s) is = absurd (cc)
replies_to_requests b (BrickFull n k v brick i entries bytes) is = absurd (cc)
replies_to_requests b (Swept n brick i s) is = absurd (cc)

-- a turn comes to one of these
module _ (P : LanesState → Type 0) (st : LanesState) (n : ℕ) (c : Call) (lanes : LanesAreOf st) (asking : is_request (ask_of c) ≡ true) (there : slice_get st.world.calls n ≡ Some c) (cases : Cases P st n c) where
  answers : (brick : BrickNo) (lane : LaneState) → next_of c ≡ next.Send brick → lane_at st.lanes brick.0 ≡ Some lane → nat_lt 0 lane.to_drop ≡ false
      → P (with_lane (after_event (after_event st (Send n false true)) (Deliver (length st.world.packets))) brick.0 (with_reply (length st.world.packets + 1) lane))
  answers brick lane wants at undropped =
      let has : (h : List BrickEvent) × (history st.world brick ≡ Some h) = lane_history st.lanes st.world.histories brick.0 lane lanes.as_many at in
      let gives : (frame : Frame) × (reply (brick_after brick has.0) (ask_of c) ≡ Some frame) = replies_to_requests (brick_after brick has.0) (ask_of c) asking in
      let w1 : WorldValue = sent_world st.world n c brick in
      let p : Packet = record { brick = brick; frame = ask_of c } in
      let same : step (step st.world (Send n false true)) (Deliver (length st.world.packets)) ≡ answered_world st.world n c brick has.0 gives.0 =
      ap (λ w. step w (Deliver (length st.world.packets))) (sent_is st.world n c brick there wants)
      ∙ delivered_is w1 (length st.world.packets) p has.0 gives.0 (get_new st.world.packets p) has.1 gives.1 in
      let Q : WorldValue → Type 0 = λ w. P (with_both st w (with_lane_at st.lanes brick.0 (with_reply (length st.world.packets + 1) lane))) in
      subst Q (sym same) (cases.answered brick lane has.0 gives.0 wants at undropped has.1 gives.1)

  sends : (brick : BrickNo) → next_of c ≡ next.Send brick → (o : Option LaneState) → lane_at st.lanes brick.0 ≡ o → P (asks st n brick o)
  sends brick wants None at =
      let Q : WorldValue → Type 0 = λ w. P (with_both (more_silent st brick) w st.lanes) in
      subst Q (sym (unsent_is st.world n c brick there wants)) (cases.unsent brick wants at)
  sends brick wants (Some lane) at = go (nat_lt 0 lane.to_drop) refl where
    go : (b : Bool) → nat_lt 0 lane.to_drop ≡ b
        → P (if b then with_lane (after_event st (Send n false true)) brick.0 (record lane { to_drop = lane.to_drop - 1 })
        else with_lane (after_event (after_event st (Send n false true)) (Deliver (length st.world.packets))) brick.0 (with_reply (length st.world.packets + 1) lane))
    go true is =
        let Q : WorldValue → Type 0 = λ w. P (with_both st w (with_lane_at st.lanes brick.0 (record lane { to_drop = lane.to_drop - 1 }))) in
        subst Q (sym (sent_is st.world n c brick there wants)) (cases.dropped brick lane wants at is)
    go false is = answers brick lane wants at is

  receives : (brick : BrickNo) → next_of c ≡ next.Receive brick → (o : Option LaneState) → lane_at st.lanes brick.0 ≡ o → P (listens st n brick o)
  receives brick wants None at =
      let Q : WorldValue → Type 0 = λ w. P (with_both (more_silent st brick) w st.lanes) in
      subst Q (sym (hushed_is st.world n c brick there wants)) (cases.laneless brick wants at)
  receives brick wants (Some lane) at = go lane.queue refl where
    go : (queue : List ℕ) → lane.queue ≡ queue → P (hears st n brick lane queue)
    go [] is =
        let Q : WorldValue → Type 0 = λ w. P (with_both (more_silent st brick) w st.lanes) in
        subst Q (sym (hushed_is st.world n c brick there wants)) (cases.silent brick lane wants at is)
    go (packet ∷ rest) is =
        let R : ℕ → Type 0 = λ k. IsReplyOf st.world brick.0 k in
        let front : IsReplyOf st.world brick.0 packet = All-head R packet rest (subst (λ ks. All R ks) is (lanes.queue brick.0 lane at)) in
        let Q : WorldValue → Type 0 = λ w. P (with_both (more_heard st) w (with_lane_at st.lanes brick.0 (record lane { queue = rest }))) in
        subst Q (sym (came_is st.world n c brick packet front.packet there wants front.there front.brick_is front.replies))
        (cases.came brick lane packet rest front.packet wants at is front.there)

  pub turn_cases : P (turn_to st n (next_of c))
  turn_cases = go (next_of c) refl where
    go : (x : StubNext) → next_of c ≡ x → P (turn_to st n x)
    go (next.Send brick) wants = sends brick wants (lane_at st.lanes brick.0) refl
    go (next.Receive brick) wants = receives brick wants (lane_at st.lanes brick.0) refl
    go next.Ended wants = cases.ended wants
