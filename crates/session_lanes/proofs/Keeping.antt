-- What each call of lanes keeps.
use Rattle.std.proofs.Common.{◌≡◌, ◌⊎◌, inl, inr, ℕ, zero, suc, ◌-◌, ◌^◌, Bool, true, false, nat_lt, if◌then◌else◌, List, [], ◌∷◌, ◌++◌, length, Option, Some, None, All, refl, sym, subst, ◌∙◌}
use Rattle.std.specs.Prelude.{slice_get}
use Rattle.std.proofs.lemmas.List.{length-replicate}
use Rattle.std.proofs.lemmas.List.Elements.{All-nil, All-push, All-get_or}
use Rattle.std.proofs.lemmas.Option.{slice_get_within, get_or_from_slice_get}
use lib.ListN.{replicate}
use Rattle.crash_base.specs.declared.numbers.BrickNo.{BrickNo}
use Rattle.crash_base.specs.declared.numbers.Moment.{Moment}
use Rattle.ssm_frames.specs.declared.frame.Frame.{Frame}
use Rattle.brick_store.specs.declared.event.BrickEvent.{BrickEvent}
use Rattle.brick_store.specs.declared.event.BrickEvent.TheVariants as happened
use Rattle.brick_store.specs.Bricks.{reply}
use Rattle.brick_store.specs.History.{incarnation_after}
use Rattle.brick_store.specs.Standing.{heard}
use Rattle.send_windows.specs.Windows.{WindowsValue}
use Rattle.ssm_stub.specs.declared.event.Told.{Told}
use Rattle.ssm_world.specs.declared.call.Call.{Call}
use Rattle.ssm_world.specs.declared.event.Packet.{Packet}
use Rattle.ssm_world.specs.declared.event.WorldEvent.{WorldEvent}
use Rattle.ssm_world.specs.declared.event.WorldEvent.TheVariants.{Write, Read, Send, Deliver, Hear, Hush, Crash, Sweep}
use Rattle.ssm_world.specs.Worlds.{WorldValue, new_world, ask_of, next_of, history, with_history, with_new_call, with_sent, with_told, told_by_send, told_by_hush, told_by_packet, packet_by_send, may_write, may_read, sent, came, hushed, replied, reached, delivered, crashed, swept, brick_after, step}
use Rattle.ssm_world.proofs.Making.{step_made}
use Rattle.ssm_world.proofs.Steps.{step_stays}
use Rattle.session_lanes.specs.Lane.{LaneState, new_lane, reply_made, lane_at}
use Rattle.session_lanes.specs.Lanes.{LanesState, new_lanes, after_event, with_lane, turn_to, gone_on}
use Rattle.session_lanes.specs.Sound.{IsReplyOf, LanesAreSound}
use Rattle.session_lanes.specs.Steps.{LanesStep, after_step, after_steps}
use Rattle.session_lanes.proofs.Ending.{goes_on, goes_nowhere, turn_made, made_by, made_is_sound}
use Rattle.session_lanes.proofs.LaneLists.{histories_as_many}
use Rattle.session_lanes.proofs.LanesStay.{same_stay, lanes_same, lanes_set, turn_lanes}
use Rattle.session_lanes.proofs.StepCases.{NamesNoMore, step_cases}
use Rattle.ssm_world.proofs.CallAsks.{ask_is_request}

-- no event adds bricks
module _ (w : WorldValue) where
  told_as_many : (place : ℕ) (c : Call) (o : Option Told) → length (with_told w place c o).histories ≡ length w.histories
  told_as_many place c None = refl
  told_as_many place c (Some told) = refl

  sent_as_many : (place : ℕ) (silent arrives : Bool) (o : Option Call) → length (sent w place silent arrives o).histories ≡ length w.histories
  sent_as_many place silent arrives None = refl
  sent_as_many place silent arrives (Some c) = packets (with_told w place c (told_by_send silent (next_of c))) (packet_by_send arrives (ask_of c) (next_of c)) ∙ told_as_many place c (told_by_send silent (next_of c)) where
    packets : (v : WorldValue) (o : Option Packet) → length (with_sent v o).histories ≡ length v.histories
    packets v None = refl
    packets v (Some p) = refl

  came_as_many : (place : ℕ) (packet : Option Packet) (o : Option Call) → length (came w place packet o).histories ≡ length w.histories
  came_as_many place packet None = refl
  came_as_many place packet (Some c) = told_as_many place c (told_by_packet packet (next_of c))

  hushed_as_many : (place : ℕ) (o : Option Call) → length (hushed w place o).histories ≡ length w.histories
  hushed_as_many place None = refl
  hushed_as_many place (Some c) = told_as_many place c (told_by_hush (next_of c))

  replied_as_many : (p : Packet) (h : List BrickEvent) (o : Option Frame) → length (replied w p h o).histories ≡ length w.histories
  replied_as_many p h None = refl
  replied_as_many p h (Some frame) = histories_as_many w.histories p.brick.0 (heard h p.frame)

  reached_as_many : (p : Packet) (o : Option (List BrickEvent)) → length (reached w p o).histories ≡ length w.histories
  reached_as_many p None = refl
  reached_as_many p (Some h) = replied_as_many p h (reply (brick_after p.brick h) p.frame)

  delivered_as_many : (o : Option Packet) → length (delivered w o).histories ≡ length w.histories
  delivered_as_many None = refl
  delivered_as_many (Some p) = reached_as_many p (history w p.brick)

  crashed_as_many : (brick : BrickNo) (o : Option (List BrickEvent)) → length (crashed w brick o).histories ≡ length w.histories
  crashed_as_many brick None = refl
  crashed_as_many brick (Some h) = go (nat_lt (incarnation_after 1 h) (2 ^ 64 - 1)) where
    go : (b : Bool) → length (if b then with_history w brick (happened.Crash ∷ h) else w).histories ≡ length w.histories
    go true = histories_as_many w.histories brick.0 (happened.Crash ∷ h)
    go false = refl

  swept_as_many : (brick : BrickNo) (moment : Moment) (o : Option (List BrickEvent)) → length (swept w brick moment o).histories ≡ length w.histories
  swept_as_many brick moment None = refl
  swept_as_many brick moment (Some h) = histories_as_many w.histories brick.0 (happened.Sweep moment ∷ h)

  begun_as_many : (c : Call) (b : Bool) → length (if b then with_new_call w c else w).histories ≡ length w.histories
  begun_as_many c true = refl
  begun_as_many c false = refl

  pub step_as_many : (e : WorldEvent) → length (step w e).histories ≡ length w.histories
  step_as_many (Write nonce key value expiry bricks least) = begun_as_many _ (may_write w nonce bricks least)
  step_as_many (Read nonce now cookie) = begun_as_many _ (may_read w nonce cookie.bricks)
  step_as_many (Send place silent arrives) = sent_as_many place silent _ (slice_get w.calls place)
  step_as_many (Deliver packet) = delivered_as_many (slice_get w.packets packet)
  step_as_many (Hear place packet) = came_as_many place (slice_get w.packets packet) (slice_get w.calls place)
  step_as_many (Hush place) = hushed_as_many place (slice_get w.calls place)
  step_as_many (Crash brick) = crashed_as_many brick (history w brick)
  step_as_many (Sweep brick moment) = swept_as_many brick moment (history w brick)

-- each event keeps what holds of lanes
pub event_keeps : (st : LanesState) (e : WorldEvent) → LanesAreSound st → LanesAreSound (after_event st e)
event_keeps st e sound = record {
  made = step_made st.world e sound.made;
  lanes = lanes_same st (step st.world e) (step_as_many st.world e) (step_stays st.world st.world e).grows.packets sound.lanes;
}

-- other windows
pub windows_keep : (st : LanesState) (windows : WindowsValue) → LanesAreSound st → LanesAreSound (record st { windows = windows })
windows_keep st windows sound = record {
  made = sound.made;
  lanes = record { as_many = sound.lanes.as_many; queue = sound.lanes.queue; made = sound.lanes.made };
}

-- a lane that names no more
pub lane_keeps : (st : LanesState) (brick : ℕ) (new : LaneState) → LanesAreSound st → All (IsReplyOf st.world brick) new.queue → All (IsReplyOf st.world brick) new.made → LanesAreSound (with_lane st brick new)
lane_keeps st brick new sound queue made = record {
  made = sound.made;
  lanes = lanes_set st st.world brick new refl (same_stay st.world) queue made sound.lanes;
}

-- a call that goes on
pub gone_keeps : (st : LanesState) (n : ℕ) → LanesAreSound st → LanesAreSound (gone_on st n)
gone_keeps st n sound = go (slice_get st.world.calls n) refl where
  go : (o : Option Call) → slice_get st.world.calls n ≡ o → LanesAreSound (gone_on st n)
  go None none = subst LanesAreSound (sym (goes_nowhere st n none)) sound
  go (Some c) there =
      let gone = goes_on st n c sound.made sound.lanes there in
      record { made = gone.made; lanes = gone.lanes }

-- new bricks
new_lane_there : (n i : ℕ) (lane : LaneState) → slice_get (replicate n new_lane) i ≡ Some lane → new_lane ≡ lane
new_lane_there zero i lane is = absurd (cc)
new_lane_there (suc n) zero lane is = cc
new_lane_there (suc n) (suc i) lane is = new_lane_there n i lane is

new_lane_at : (n brick : ℕ) (lane : LaneState) → lane_at (replicate n new_lane) brick ≡ Some lane → new_lane ≡ lane
new_lane_at n zero lane is = absurd (cc)
new_lane_at n (suc i) lane is = new_lane_there n i lane is

pub new_is_sound : (bricks most least : ℕ) → LanesAreSound (new_lanes bricks most least)
new_is_sound bricks most least =
    let R : ℕ → ℕ → Type 0 = λ brick k. IsReplyOf (new_world bricks) brick k in
    record {
      made = record { bricks = bricks; events = []; made = refl };
      lanes = record {
        as_many = length-replicate bricks new_lane ∙ sym (length-replicate bricks []);
        queue = λ brick lane at. subst (λ (l : LaneState). All (R brick) l.queue) (new_lane_at bricks brick lane at) (All-nil (R brick));
        made = λ brick lane at. subst (λ (l : LaneState). All (R brick) l.made) (new_lane_at bricks brick lane at) (All-nil (R brick));
      };
    }

-- a reply that a brick made is one that its lane names
pub made_named : (w : WorldValue) (brick number packet : ℕ) (lane : LaneState) → All (IsReplyOf w brick) lane.made → reply_made lane number ≡ Some packet → IsReplyOf w brick packet
made_named w brick zero packet lane all is = absurd (cc)
made_named w brick (suc place) packet lane all is =
    subst (λ k. IsReplyOf w brick k) (get_or_from_slice_get lane.made place packet packet is) (All-get_or (IsReplyOf w brick) lane.made place packet (slice_get_within lane.made place packet is) all)

-- a lane that names no more than it did names replies of its brick
named_still : (w : WorldValue) (brick : ℕ) (lane new : LaneState) → NamesNoMore lane new → All (IsReplyOf w brick) lane.queue → All (IsReplyOf w brick) lane.made → All (IsReplyOf w brick) new.queue × All (IsReplyOf w brick) new.made
named_still w brick lane new names queue made = (go names.queue, subst (λ ks. All R ks) (sym names.made) made) where
  R : ℕ → Type 0
  R k = IsReplyOf w brick k

  go : (new.queue ≡ lane.queue) ⊎ ((number packet : ℕ) × (reply_made lane number ≡ Some packet) × (new.queue ≡ lane.queue ++ packet ∷ [])) → All R new.queue
  go (inl same) = subst (λ ks. All R ks) (sym same) queue
  go (inr (number, packet, is, more)) = subst (λ ks. All R ks) (sym more) (All-push R lane.queue packet queue (made_named w brick number packet lane made is))

-- each call of lanes keeps them sound
pub step_keeps : (st : LanesState) (s : LanesStep) → LanesAreSound st → LanesAreSound (after_step st s)
step_keeps st s sound = step_cases LanesAreSound st s (record {
  same = sound;
  windowed = λ windows. windows_keep st windows sound;
  happens = λ e untold begun. event_keeps st e sound;
  turned = λ n c is there. record {
    made = made_by st.world (turn_to st n (next_of c)).world sound.made (turn_made st n (next_of c));
    lanes = turn_lanes st n c sound.lanes (ask_is_request st.world c ((made_is_sound st.world sound.made).calls n c there)) there;
  };
  changed = λ windows brick lane new at names. (
      let named = named_still st.world brick lane new names (sound.lanes.queue brick lane at) (sound.lanes.made brick lane at) in
      lane_keeps (record st { windows = windows }) brick new (windows_keep st windows sound) named.0 named.1);
})

pub steps_keep : (st : LanesState) (steps : List LanesStep) → LanesAreSound st → LanesAreSound (after_steps st steps)
steps_keep st [] sound = sound
steps_keep st (s ∷ steps) sound = steps_keep (after_step st s) steps (step_keeps st s sound)
