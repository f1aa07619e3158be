-- Lanes name replies of their bricks while packets are added and lanes change.
use Rattle.std.proofs.Common.{◌≡◌, inl, inr, ℕ, ◌+◌, ◌-◌, Bool, true, false, nat_lt, if◌then◌else◌, List, [], ◌∷◌, ◌++◌, length, Some, All, refl, sym, ap, subst, ◌∙◌}
use Rattle.std.specs.Prelude.{slice_get}
use Rattle.std.proofs.lemmas.List.{length_push}
use Rattle.std.proofs.lemmas.List.Elements.{All-push, All-rest, All-weaker}
use Rattle.ssm_frames.specs.Requests.{is_request}
use Rattle.brick_store.specs.Standing.{heard}
use Rattle.ssm_world.specs.declared.call.Call.{Call}
use Rattle.ssm_world.specs.declared.event.Packet.{Packet}
use Rattle.ssm_world.specs.Worlds.{WorldValue, ask_of}
use Rattle.ssm_world.proofs.Lists.{get_front, get_new}
use Rattle.ssm_world.proofs.Replying.{RepliesTo, reply_to}
use Rattle.session_lanes.specs.Lane.{LaneState, with_lane_at, with_reply}
use Rattle.session_lanes.specs.Lanes.{LanesState, with_counts, turn_to}
use Rattle.session_lanes.specs.Counts.{CountsState}
use Rattle.ssm_world.specs.Worlds.{next_of}
use Rattle.session_lanes.specs.Sound.{IsReplyOf, LanesAreOf}
use Rattle.session_lanes.proofs.LaneLists.{lane_set, lanes_as_many, histories_as_many}
use Rattle.session_lanes.proofs.Turning.{with_both, more_silent, more_heard, answered_world, turn_cases}

-- each packet of a world stands at its place in another
abbrev pub PacketsStay : WorldValue → WorldValue → Type 0
PacketsStay w v = (i : ℕ) (p : Packet) → slice_get w.packets i ≡ Some p → slice_get v.packets i ≡ Some p

pub replies_stay : (w v : WorldValue) (brick : ℕ) (numbers : List ℕ) → PacketsStay w v → All (IsReplyOf w brick) numbers → All (IsReplyOf v brick) numbers
replies_stay w v brick numbers stay all =
    All-weaker (IsReplyOf w brick) (IsReplyOf v brick)
    (λ k is. record { packet = is.packet; there = stay k is.packet is.there; brick_is = is.brick_is; replies = is.replies }) numbers all

-- where counts change
pub lanes_counted : (st : LanesState) (counts : CountsState) → LanesAreOf st → LanesAreOf (with_counts st counts)
lanes_counted st counts lanes = record { as_many = lanes.as_many; queue = lanes.queue; made = lanes.made }

-- where no lane changes
pub lanes_same : (st : LanesState) (w : WorldValue) → length w.histories ≡ length st.world.histories → PacketsStay st.world w → LanesAreOf st → LanesAreOf (with_both st w st.lanes)
lanes_same st w as_many stay lanes = record {
  as_many = lanes.as_many ∙ sym as_many;
  queue = λ brick lane at. replies_stay st.world w brick lane.queue stay (lanes.queue brick lane at);
  made = λ brick lane at. replies_stay st.world w brick lane.made stay (lanes.made brick lane at);
}

-- where one lane changes
pub lanes_set : (st : LanesState) (w : WorldValue) (k : ℕ) (new : LaneState) → length w.histories ≡ length st.world.histories → PacketsStay st.world w
    → All (IsReplyOf w k) new.queue → All (IsReplyOf w k) new.made → LanesAreOf st → LanesAreOf (with_both st w (with_lane_at st.lanes k new))
lanes_set st w k new as_many stay queue made lanes = record {
  as_many = lanes_as_many st.lanes k new ∙ lanes.as_many ∙ sym as_many;
  queue = λ brick lane at. elim (lane_set st.lanes k new brick lane at) [
    | inl old ↦ replies_stay st.world w brick lane.queue stay (lanes.queue brick lane old)
    | inr changed ↦ (
        let Q : ℕ → LaneState → Type 0 = λ b l. All (IsReplyOf w b) l.queue in
        subst (λ l. Q brick l) changed.1 (subst (λ b. Q b new) (sym changed.0) queue))
  ];
  made = λ brick lane at. elim (lane_set st.lanes k new brick lane at) [
    | inl old ↦ replies_stay st.world w brick lane.made stay (lanes.made brick lane old)
    | inr changed ↦ (
        let Q : ℕ → LaneState → Type 0 = λ b l. All (IsReplyOf w b) l.made in
        subst (λ l. Q brick l) changed.1 (subst (λ b. Q b new) (sym changed.0) made))
  ];
}

pub same_stay : (w : WorldValue) → PacketsStay w w
same_stay w = λ i p is. is

-- a lane after a reply was made names it and what it named
pub reply_named : (w : WorldValue) (brick k : ℕ) (lane : LaneState) → IsReplyOf w brick k → All (IsReplyOf w brick) lane.queue → All (IsReplyOf w brick) lane.made
    → All (IsReplyOf w brick) (with_reply k lane).queue × All (IsReplyOf w brick) (with_reply k lane).made
reply_named w brick k lane new queue made = go (nat_lt 0 lane.to_lose) where
  N : LaneState → Type 0
  N l = All (IsReplyOf w brick) l.queue × All (IsReplyOf w brick) l.made

  go : (b : Bool) → All (IsReplyOf w brick) (if b then record lane { to_lose = lane.to_lose - 1; made = lane.made ++ k ∷ [] } else record lane { made = lane.made ++ k ∷ []; queue = lane.queue ++ k ∷ [] }).queue
      × All (IsReplyOf w brick) (if b then record lane { to_lose = lane.to_lose - 1; made = lane.made ++ k ∷ [] } else record lane { made = lane.made ++ k ∷ []; queue = lane.queue ++ k ∷ [] }).made
  go true = (queue, All-push (IsReplyOf w brick) lane.made k made new)
  go false = (All-push (IsReplyOf w brick) lane.queue k queue new, All-push (IsReplyOf w brick) lane.made k made new)

-- the packet behind the one that follows those that there were
pub last_numbered : (w v : WorldValue) (p q : Packet) → v.packets ≡ (w.packets ++ p ∷ []) ++ q ∷ [] → slice_get v.packets (length w.packets + 1) ≡ Some q
last_numbered w v p q packets =
    let first : List Packet = w.packets ++ p ∷ [] in
    ap (λ ps. slice_get ps (length w.packets + 1)) packets ∙ ap (slice_get (first ++ q ∷ [])) (sym (length_push w.packets p)) ∙ get_new first q

-- two packets more
pub two_more : (w v : WorldValue) (p q : Packet) → v.packets ≡ (w.packets ++ p ∷ []) ++ q ∷ [] → PacketsStay w v
two_more w v p q packets = λ i x is. ap (λ ps. slice_get ps i) packets ∙ get_front (w.packets ++ p ∷ []) (q ∷ []) i x (get_front w.packets (p ∷ []) i x is)

-- a turn of a call leaves the lanes so
pub turn_lanes : (st : LanesState) (n : ℕ) (c : Call) → LanesAreOf st → is_request (ask_of c) ≡ true → slice_get st.world.calls n ≡ Some c → LanesAreOf (turn_to st n (next_of c))
turn_lanes st n c lanes asking there = turn_cases LanesAreOf st n c lanes asking there (record {
  ended = λ wants. lanes;
  unsent = λ brick wants at. lanes_same (more_silent st brick) _ refl (same_stay st.world) (lanes_counted st _ lanes);
  dropped = λ brick lane wants at drops. lanes_set st _ brick.0 _ refl (λ i p is. get_front st.world.packets _ i p is)
      (replies_stay st.world _ brick.0 lane.queue (λ i p is. get_front st.world.packets _ i p is) (lanes.queue brick.0 lane at))
      (replies_stay st.world _ brick.0 lane.made (λ i p is. get_front st.world.packets _ i p is) (lanes.made brick.0 lane at)) lanes;
  answered = λ brick lane h frame wants at undropped now gives. (
      let to : RepliesTo (ask_of c) frame = reply_to brick h (ask_of c) frame gives in
      let p : Packet = record { brick = brick; frame = ask_of c } in
      let q : Packet = record { brick = brick; frame = frame } in
      let w : WorldValue = answered_world st.world n c brick h frame in
      let stay : PacketsStay st.world w = two_more st.world w p q refl in
      let named = reply_named w brick.0 (length st.world.packets + 1) lane (record { packet = q; there = last_numbered st.world w p q refl; brick_is = refl; replies = to.replies })
      (replies_stay st.world w brick.0 lane.queue stay (lanes.queue brick.0 lane at)) (replies_stay st.world w brick.0 lane.made stay (lanes.made brick.0 lane at)) in
      lanes_set st w brick.0 _ (histories_as_many st.world.histories brick.0 (heard h (ask_of c))) stay named.0 named.1 lanes);
  laneless = λ brick wants at. lanes_same (more_silent st brick) _ refl (same_stay st.world) (lanes_counted st _ lanes);
  silent = λ brick lane wants at empty. lanes_same (more_silent st brick) _ refl (same_stay st.world) (lanes_counted st _ lanes);
  came = λ brick lane packet rest p wants at queue is. lanes_set (more_heard st) _ brick.0 _ refl (same_stay st.world)
      (replies_stay st.world _ brick.0 rest (same_stay st.world) (All-rest (IsReplyOf st.world brick.0) packet rest lane.queue queue (lanes.queue brick.0 lane at)))
      (replies_stay st.world _ brick.0 lane.made (same_stay st.world) (lanes.made brick.0 lane at)) (lanes_counted st _ lanes);
})
