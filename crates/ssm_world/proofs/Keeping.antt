-- Each change of a world keeps what holds of it.
use Rattle.std.proofs.Common.{◌≡◌, inl, inr, ℕ, Bool, true, false, if◌then◌else◌, List, [], ◌∷◌, ◌++◌, Some, refl, sym, ap, ◌∙◌, subst}
use Rattle.std.specs.Prelude.{slice_get, slice_set}
use Rattle.crash_base.specs.declared.numbers.BrickNo.{BrickNo}
use Rattle.crash_base.specs.declared.numbers.Version.{Version}
use Rattle.crash_base.specs.Same.{same_version}
use Rattle.ssm_frames.specs.declared.frame.Frame.{Frame}
use Rattle.ssm_frames.specs.declared.frame.Frame.TheVariants.{Put, Get, Sweep, Stored, Found, Absent, BrickFull, Swept}
use Rattle.ssm_frames.specs.Requests.{is_request}
use Rattle.brick_store.specs.declared.event.BrickEvent.{BrickEvent}
use Rattle.brick_store.specs.declared.event.BrickEvent.TheVariants as happened
use Rattle.brick_store.specs.Bricks.{put_value, reply}
use Rattle.brick_store.specs.History.{all_held}
use Rattle.brick_store.specs.Kept.{is_full}
use Rattle.brick_store.specs.Standing.{heard}
use Rattle.ssm_world.specs.declared.event.Packet.{Packet}
use Rattle.ssm_world.specs.declared.call.Call.{Call}
use Rattle.ssm_world.specs.Facts.{AllStored}
use Rattle.ssm_world.specs.Worlds.{WorldValue, nonce_of, ask_of, history, with_history, with_packet, with_new_call, with_call, is_new, brick_after}
use Rattle.ssm_world.specs.Sound.{untold, Asks, WasAskedOf, Grows, WasMade, RepliesSince, WasWritten, CallIsSound, IsSound}
use Rattle.ssm_world.proofs.CallAsks.{put_asked, ask_is_request}
use Rattle.ssm_world.proofs.Growing.{same_nonce, grows_same, grows_on, grows_packet, grows_new_call, grows_call, grows_history, ask_of_call, brick_asked_stays, sent_stays, stored_stays, call_stays, made_stays}
use Rattle.ssm_world.proofs.Lists.{get_last, get_set, history_set, history_set_same, none_passes}
use Rattle.ssm_world.proofs.Replying.{heard_is, RepliesTo, reply_to}
use Rattle.ssm_stub.proofs.Tests.{version_same}

-- The later world has grown, is sound where the earlier one is, and its replies were made since a third one
-- where those of the earlier are and that one has grown to it.
pub record StaysSound (since w v : WorldValue) : Type 0 where
  pub grows : Grows w v
  pub sound : IsSound w → IsSound v
  pub replies : IsSound w → Grows since w → RepliesSince since w → RepliesSince since v

pub stays_same : (since w : WorldValue) → StaysSound since w w
stays_same since w = record { grows = grows_same w; sound = λ s. s; replies = λ s g r. r }

pub stays_on : (since u v w : WorldValue) → StaysSound since u v → StaysSound since v w → StaysSound since u w
stays_on since u v w first second = record {
  grows = grows_on u v w first.grows second.grows;
  sound = λ s. second.sound (first.sound s);
  replies = λ s g r. second.replies (first.sound s) (grows_on since u v g first.grows) (first.replies s g r);
}

-- replies stay where no packet is new
same_packets : (since w v : WorldValue) → Grows w v → v.packets ≡ w.packets → RepliesSince since w → RepliesSince since v
same_packets since w v grows same replies = record {
  each = λ i p late is no_request. made_stays since w v p grows (replies.each i p late (ap (λ ps. slice_get ps i) (sym same) ∙ is) no_request);
}

-- a call begins whose nonce is new
pub new_call_stays : (since w : WorldValue) (c : Call) → is_new w (nonce_of c) ≡ true → ((v : WorldValue) → CallIsSound v c) → StaysSound since w (with_new_call w c)
new_call_stays since w c new begins =
    let grows : Grows w (with_new_call w c) = grows_new_call w c in
    let other : (k : ℕ) (d : Call) → slice_get w.calls k ≡ Some d → nonce_of d ≡ nonce_of c → ⊥ =
    λ k d is same.
    let apart : same_version (nonce_of d) (nonce_of c) ≡ false = none_passes (λ (x : Call). same_version (nonce_of x) (nonce_of c)) w.calls k d new is in
    let equal : same_version (nonce_of d) (nonce_of c) ≡ true = ap (λ n. same_version n (nonce_of c)) same ∙ version_same (nonce_of c) in
    absurd (cc) in
    record {
      grows = grows;
      sound = λ s. record {
        nonces = λ j k d e at_j at_k same. elim (get_last w.calls c j d at_j) [
          | inl old_j ↦ elim (get_last w.calls c k e at_k) [
            | inl old_k ↦ s.nonces j k d e old_j old_k same
            | inr new_k ↦ absurd (other j d old_j (same ∙ ap (λ x. nonce_of x) (sym new_k.1)))
          ]
          | inr new_j ↦ elim (get_last w.calls c k e at_k) [
            | inl old_k ↦ absurd (other k e old_k (sym same ∙ ap (λ x. nonce_of x) (sym new_j.1)))
            | inr new_k ↦ new_j.0 ∙ sym new_k.0
          ]
        ];
        requests = λ i p is asks. brick_asked_stays w _ p.brick p.frame grows (s.requests i p is asks);
        stored = λ brick h is. stored_stays w _ brick h grows (s.stored brick h is);
        calls = λ k d is. elim (get_last w.calls c k d is) [
          | inl old ↦ call_stays w _ d grows (s.calls k d old)
          | inr new ↦ (let P : Call → Type 0 = λ x. CallIsSound (with_new_call w c) x in subst P new.1 (begins (with_new_call w c)))
        ];
      };
      replies = λ s g r. same_packets since w (with_new_call w c) grows refl r;
    }

-- a call at a place of changed calls was one there, which began the same
was_call : (w : WorldValue) (k : ℕ) (c d : Call) → slice_get w.calls k ≡ Some c → untold d ≡ untold c → (j : ℕ) (e : Call) → slice_get (slice_set w.calls k d) j ≡ Some e → (f : Call) × (slice_get w.calls j ≡ Some f) × (untold e ≡ untold f)
was_call w k c d there same j e is = elim (get_set w.calls k d j e is) [
  | inl old ↦ (e, old, refl)
  | inr new ↦ (c, ap (slice_get w.calls) new.0 ∙ there, ap untold (sym new.1) ∙ same)
]

-- a call is told something
pub call_stays_sound : (since w : WorldValue) (k : ℕ) (c d : Call) → slice_get w.calls k ≡ Some c → untold d ≡ untold c → (CallIsSound w c → CallIsSound w d) → StaysSound since w (with_call w k d)
call_stays_sound since w k c d there same hears =
    let grows : Grows w (with_call w k d) = grows_call w k c d there same in
    record {
      grows = grows;
      sound = λ s. record {
        nonces = λ i j e f at_i at_j equal.
            let was_i = was_call w k c d there same i e at_i in
            let was_j = was_call w k c d there same j f at_j in
            s.nonces i j was_i.0 was_j.0 was_i.1 was_j.1 (sym (same_nonce was_i.0 e was_i.2) ∙ equal ∙ same_nonce was_j.0 f was_j.2);
        requests = λ i p is asks. brick_asked_stays w _ p.brick p.frame grows (s.requests i p is asks);
        stored = λ brick h is. stored_stays w _ brick h grows (s.stored brick h is);
        calls = λ j e is. elim (get_set w.calls k d j e is) [
          | inl old ↦ call_stays w _ e grows (s.calls j e old)
          | inr new ↦ (let P : Call → Type 0 = λ x. CallIsSound (with_call w k d) x in subst P new.1 (call_stays w _ d grows (hears (s.calls k c there))))
        ];
      };
      replies = λ s g r. same_packets since w (with_call w k d) grows refl r;
    }

-- a call's ask is sent to a brick that it asks
pub request_stays : (since w : WorldValue) (brick : BrickNo) (k : ℕ) (c : Call) → slice_get w.calls k ≡ Some c → Asks c brick → StaysSound since w (with_packet w (record { brick = brick; frame = ask_of c }))
request_stays since w brick k c there to =
    let new : Packet = record { brick = brick; frame = ask_of c } in
    let grows : Grows w (with_packet w new) = grows_packet w new in
    record {
      grows = grows;
      sound = λ s. record {
        nonces = s.nonces;
        requests = λ i p is asks. elim (get_last w.packets new i p is) [
          | inl old ↦ brick_asked_stays w _ p.brick p.frame grows (s.requests i p old asks)
          | inr last ↦ (
              let A : BrickNo → Type 0 = λ b. Asks c b in
              brick_asked_stays w _ p.brick p.frame grows (k, c, there, ap (λ (q : Packet). q.frame) last.1, subst A (ap (λ (q : Packet). q.brick) last.1) to))
        ];
        stored = λ b h is. stored_stays w _ b h grows (s.stored b h is);
        calls = λ j d is. call_stays w _ d grows (s.calls j d is);
      };
      replies = λ s g r. record {
        each = λ i p late is no_request. elim (get_last w.packets new i p is) [
          | inl old ↦ made_stays since w _ p grows (r.each i p late old no_request)
          | inr last ↦ absurd (
              let asks : is_request p.frame ≡ true = ap (λ (q : Packet). is_request q.frame) (sym last.1) ∙ ask_is_request w c (s.calls k c there) in
              cc)
        ];
      };
    }

-- a brick goes on
pub history_stays : (since w : WorldValue) (brick : BrickNo) (newer h : List BrickEvent) → history w brick ≡ Some h → (IsSound w → AllStored (WasWritten w brick) (newer ++ h)) → StaysSound since w (with_history w brick (newer ++ h))
history_stays since w brick newer h there stores =
    let grows : Grows w (with_history w brick (newer ++ h)) = grows_history w brick newer h there in
    record {
      grows = grows;
      sound = λ s. record {
        nonces = s.nonces;
        requests = λ i p is asks. brick_asked_stays w _ p.brick p.frame grows (s.requests i p is asks);
        stored = λ b g is. elim (history_set w.histories brick.0 (newer ++ h) b.0 g is) [
          | inl old ↦ stored_stays w _ b g grows (s.stored b g old)
          | inr new ↦ (
              let its : brick ≡ b = (let number : b.0 ≡ brick.0 = new.0 in λ l. record { 0 = sym number l }) in
              let P : List BrickEvent → Type 0 = λ x. AllStored (WasWritten (with_history w brick (newer ++ h)) b) x in
              let B : BrickNo → Type 0 = λ c. AllStored (WasWritten (with_history w brick (newer ++ h)) c) (newer ++ h) in
              subst P new.1 (subst B its (stored_stays w _ brick (newer ++ h) grows (stores s))))
        ];
        calls = λ k c is. call_stays w _ c grows (s.calls k c is);
      };
      replies = λ s g r. same_packets since w (with_history w brick (newer ++ h)) grows refl r;
    }

-- what a call's ask to a brick stores there was written to it
heard_stored : (w : WorldValue) (brick : BrickNo) (h : List BrickEvent) (frame : Frame) → IsSound w → WasAskedOf w brick frame → AllStored (WasWritten w brick) h → AllStored (WasWritten w brick) (heard h frame)
heard_stored w brick h (Put n k v d x) sound was all = go (is_full (all_held h) (put_value k v d x))
  where
    go : (b : Bool) → AllStored (WasWritten w brick) (if b then h else happened.Stored (put_value k v d x) ∷ h)
    go true = all
    go false =
        let nonce : n ≡ v = put_asked w n k v d x sound (ask_of_call w brick (Put n k v d x) was) in
        let P : Version → Type 0 = λ m. WasAskedOf w brick (Put m k v d x) in
        (subst P nonce was, all)
heard_stored w brick h (Get n k v) sound was all = all
heard_stored w brick h (Sweep n moment) sound was all = all
heard_stored w brick h (Stored n k v b i) sound was all = all
heard_stored w brick h (Found n k v b i d x) sound was all = all
heard_stored w brick h (Absent n k v b i s) sound was all = all
heard_stored w brick h (BrickFull n k v b i s t) sound was all = all
heard_stored w brick h (Swept n b i s) sound was all = all

-- a request reaches its brick, which replies
pub delivery_stays : (since w : WorldValue) (i : ℕ) (p : Packet) (h : List BrickEvent) (frame : Frame) → slice_get w.packets i ≡ Some p → history w p.brick ≡ Some h
    → reply (brick_after p.brick h) p.frame ≡ Some frame
    → StaysSound since w (with_packet (with_history w p.brick (heard h p.frame)) (record { brick = p.brick; frame = frame }))
delivery_stays since w i p h frame there now replies =
    let to : RepliesTo p.frame frame = reply_to p.brick h p.frame frame replies in
    let more : (newer : List BrickEvent) × (heard h p.frame ≡ newer ++ h) = heard_is h p.frame in
    let stores : IsSound w → AllStored (WasWritten w p.brick) (heard h p.frame) =
    λ s. heard_stored w p.brick h p.frame s (s.requests i p there to.asks) (s.stored p.brick h now) in
    let middle : WorldValue = with_history w p.brick (heard h p.frame) in
    let S : List BrickEvent → Type 0 = λ g. StaysSound since w (with_history w p.brick g) in
    let A : List BrickEvent → Type 0 = λ g. AllStored (WasWritten w p.brick) g in
    let first : StaysSound since w middle = subst S (sym more.1) (history_stays since w p.brick more.0 h now (λ s. subst A more.1 (stores s))) in
    let new : Packet = record { brick = p.brick; frame = frame } in
    let grows : Grows middle (with_packet middle new) = grows_packet middle new in
    let whole : Grows w (with_packet middle new) = grows_on w middle (with_packet middle new) first.grows grows in
    record {
      grows = whole;
      sound = λ s.
          let m : IsSound middle = first.sound s in
          record {
            nonces = m.nonces;
            requests = λ j q is asked. elim (get_last w.packets new j q is) [
              | inl old ↦ brick_asked_stays middle _ q.brick q.frame grows (m.requests j q old asked)
              | inr last ↦ absurd (let none : is_request q.frame ≡ false = ap (λ (x : Packet). is_request x.frame) (sym last.1) ∙ to.replies in cc)
            ];
            stored = λ b g is. stored_stays middle _ b g grows (m.stored b g is);
            calls = λ k c is. call_stays middle _ c grows (m.calls k c is);
          };
      replies = λ s g r.
          let before : RepliesSince since middle = first.replies s g r in
          let made : WasMade since (with_packet middle new) new = record {
            request = p.frame;
            earlier = h;
            later = [];
            asks = to.asks;
            was_sent = sent_stays w (with_packet middle new) p.brick p.frame whole (i, there);
            history_is = history_set_same w.histories p.brick.0 (heard h p.frame) h now;
            since_then = λ old is.
                let newer : (newer : List BrickEvent) × (history w p.brick ≡ Some (newer ++ old)) = g.histories p.brick old is in
                let same : Some h ≡ Some (newer.0 ++ old) = sym now ∙ newer.1 in
                (newer.0, cc);
            reply_is = replies;
          } in
          record {
            each = λ j q late is none. elim (get_last w.packets new j q is) [
              | inl old ↦ made_stays since middle _ q grows (before.each j q late old none)
              | inr last ↦ (let P : Packet → Type 0 = λ x. WasMade since (with_packet middle new) x in subst P last.1 made)
            ];
          };
    }
