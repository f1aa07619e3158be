-- What the holders of an acknowledged cookie keep.
use Rattle.std.proofs.Common.{◌≡◌, ℕ, zero, suc, Bool, true, false, if◌then◌else◌, List, [], ◌∷◌, ◌++◌, length, take, Option, Some, None, Ok, refl, sym, ap, ◌∙◌, subst, arith}
use Rattle.std.specs.Prelude.{slice_get, nat_le}
use Rattle.std.specs.List.{filter_map, cons_option}
use Rattle.crash_base.specs.declared.numbers.BrickNo.{BrickNo}
use Rattle.crash_base.specs.declared.numbers.Moment.{Moment}
use Rattle.crash_base.specs.declared.numbers.SessionKey.{SessionKey}
use Rattle.crash_base.specs.declared.numbers.Version.{Version}
use Rattle.crash_base.specs.Same.{same_version, same_key}
use Rattle.session_cookie.specs.declared.cookie.Cookie.{Cookie}
use Rattle.session_cookie.specs.declared.cookie.Holder.{Holder}
use Rattle.ssm_frames.specs.declared.frame.Frame.{Frame}
use Rattle.ssm_frames.specs.declared.frame.Frame.TheVariants.{Put, Stored}
use Rattle.brick_store.specs.declared.event.BrickEvent.{BrickEvent}
use Rattle.brick_store.specs.declared.event.BrickEvent.TheVariants as happened
use Rattle.brick_store.specs.declared.kept.Kept.{Kept}
use Rattle.brick_store.specs.Bricks.{put_value}
use Rattle.brick_store.specs.History.{incarnation_after}
use Rattle.brick_store.specs.Kept.{is_under}
use Rattle.ssm_stub.specs.declared.ask.Ask.{Ask}
use Rattle.ssm_stub.specs.declared.ask.Turn.{Turn}
use Rattle.ssm_stub.specs.declared.ear.Outcome.TheVariants as outcome
use Rattle.ssm_stub.specs.declared.ear.Ear.{Ear}
use Rattle.ssm_stub.specs.declared.ear.Ear.TheVariants.{Open, Heard}
use Rattle.ssm_stub.specs.declared.reply.WriteReply.{WriteReply}
use Rattle.ssm_stub.specs.declared.reply.WriteReply.TheVariants as put
use Rattle.ssm_stub.specs.Turns.{turn_after_asks}
use Rattle.ssm_stub.specs.Writes.{WriteState, put_lawful, holder_by, holder_of, cause_of, missed_unless, write_answer}
use Rattle.ssm_world.specs.declared.call.Call.TheVariants as call
use Rattle.ssm_world.specs.declared.event.Packet.{Packet}
use Rattle.ssm_world.specs.declared.event.WorldEvent.{WorldEvent}
use Rattle.ssm_world.specs.Facts.{AllStored}
use Rattle.ssm_world.specs.Worlds.{WorldValue, new_world, history, after}
use Rattle.ssm_world.specs.Sound.{WasSent, WasMade, RepliesSince, WasWritten, IsSound, WriteIsSound}
use Rattle.ssm_world.specs.Claims.{IsAcknowledged, kept_for, Keeps}
use Rattle.ssm_world.proofs.CallAsks.{one_ask, put_asked}
use Rattle.ssm_world.proofs.Growing.{WasAsked, ask_of_call}
use Rattle.ssm_world.proofs.Histories.{stored_front, stored_weaker, held_on}
use Rattle.ssm_world.proofs.Lawful.{lawful_stored}
use Rattle.ssm_world.proofs.Replying.{StoredFor, stored_for}
use Rattle.ssm_world.proofs.Steps.{world_is_sound, world_replies}
use Rattle.ssm_stub.proofs.Tests.{both, version_is}

-- the cookie that a write names once it answers Ok
abbrev pub cookie_of : WriteState → Cookie
cookie_of s =
    record { key = s.key; version = s.nonce; expiry = s.expiry; bricks = take s.least (filter_map holder_of s.asks) }

-- an answer Ok is the write's cookie, which enough bricks hold
pub answer_cookie : (s : WriteState) (cookie : Cookie) → write_answer s ≡ Some (Ok cookie) → (cookie_of s ≡ cookie) × (nat_le s.least (length (filter_map holder_of s.asks)) ≡ true)
answer_cookie s cookie is = go (nat_le s.least (length (filter_map holder_of s.asks))) (turn_after_asks s.asks) is
  where
    go : (enough : Bool) (turn : Option (Turn BrickNo)) → (if enough then Some (Ok (cookie_of s)) else missed_unless turn (filter_map cause_of s.asks)) ≡ Some (Ok cookie) → (cookie_of s ≡ cookie) × (enough ≡ true)
    go true turn e = (cc, refl)
    go false None e = absurd (cc)
    go false (Some turn) e = absurd (cc)

-- one among the first is one among all
pub get_taken : {A : Type 0} (n : ℕ) (xs : List A) (i : ℕ) (x : A) → slice_get (take n xs) i ≡ Some x → slice_get xs i ≡ Some x
get_taken zero xs i x is = absurd (cc)
get_taken (suc n) [] i x is = absurd (cc)
get_taken (suc n) (y ∷ xs) zero x is = is
get_taken (suc n) (y ∷ xs) (suc i) x is = get_taken n xs i x is

-- a holder is one that was asked and stored the value
pub record HolderAsk (asks : List (Ask BrickNo WriteReply)) (h : Holder) : Type 0 where
  pub place : ℕ
  pub ask : Ask BrickNo WriteReply
  pub there : slice_get asks place ≡ Some ask
  pub who_is : ask.who ≡ h.brick
  pub ear_is : ask.ear ≡ Heard (outcome.Answered (put.Stored h.incarnation))

-- what a holder was heard as
record HeardStored (brick : BrickNo) (ear : Ear WriteReply) (h : Holder) : Type 0 where
  pub who_is : brick ≡ h.brick
  pub ear_is : ear ≡ Heard (outcome.Answered (put.Stored h.incarnation))

holder_heard : (brick : BrickNo) (ear : Ear WriteReply) (h : Holder) → holder_by brick ear ≡ Some h → HeardStored brick ear h
holder_heard brick (Open stage) h is = absurd (cc)
holder_heard brick (Heard outcome.Silent) h is = absurd (cc)
holder_heard brick (Heard outcome.Strayed) h is = absurd (cc)
holder_heard brick (Heard (outcome.Answered (put.Full entries bytes))) h is = absurd (cc)
holder_heard brick (Heard (outcome.Answered (put.Stored i))) h is =
    let same : record { brick = brick; incarnation = i } ≡ h = cc in
    record {
      who_is = ap (λ (x : Holder). x.brick) same;
      ear_is = ap (λ (x : Holder). Heard (outcome.Answered (put.Stored x.incarnation))) same;
    }

next_ask : (a : Ask BrickNo WriteReply) (asks : List (Ask BrickNo WriteReply)) (h : Holder) → HolderAsk asks h → HolderAsk (a ∷ asks) h
next_ask a asks h found = record { place = suc found.place; ask = found.ask; there = found.there; who_is = found.who_is; ear_is = found.ear_is }

pub holder_ask : (asks : List (Ask BrickNo WriteReply)) (i : ℕ) (h : Holder) → slice_get (filter_map holder_of asks) i ≡ Some h → HolderAsk asks h
holder_ask [] i h is = absurd (cc)
holder_ask (a ∷ asks) i h is = go (holder_of a) refl i (λ j e. next_ask a asks h (holder_ask asks j h e)) is
  where
    go : (o : Option Holder) → holder_of a ≡ o → (j : ℕ) → ((k : ℕ) → slice_get (filter_map holder_of asks) k ≡ Some h → HolderAsk (a ∷ asks) h)
        → slice_get (cons_option o (filter_map holder_of asks)) j ≡ Some h → HolderAsk (a ∷ asks) h
    go None of j later e = later j e
    go (Some g) of zero later e =
        let same : g ≡ h = cc in
        let heard_as : HeardStored a.who a.ear h = holder_heard a.who a.ear h (of ∙ ap (λ x. Some x) same) in
        record { place = 0; ask = a; there = refl; who_is = heard_as.who_is; ear_is = heard_as.ear_is }
    go (Some g) of (suc j) later e = later j e

-- what was stored under the version of a write is what it wrote
pub written_is : (w : WorldValue) (brick : BrickNo) (n : Version) (k : SessionKey) (d : Moment) (x : List ℕ) (s : Kept) → IsSound w → WasAsked w (Put n k n d x) → WasWritten w brick s → same_version n s.version ≡ true → s ≡ put_value k n d x
written_is w brick n k d x s sound was written same =
    let version : s.version ≡ n = sym (version_is n s.version same) in
    let one : Put s.version s.key s.version s.expiry s.value ≡ Put n k n d x = one_ask w (Put s.version s.key s.version s.expiry s.value) (Put n k n d x) sound (ask_of_call w brick (Put s.version s.key s.version s.expiry s.value) written) was version in
    let key : s.key ≡ k = cc in
    let expiry : s.expiry ≡ d = cc in
    let value : s.value ≡ x = cc in
    λ l. put_value (key l) (version l) (expiry l) (value l)

-- a holder of a write, whose answer may or may not have come
pub record Holds (w : WorldValue) (h : Holder) (s : Kept) : Type 0 where
  pub earlier : List BrickEvent
  pub later : List BrickEvent
  pub history_is : history w h.brick ≡ Some (later ++ happened.Stored s ∷ earlier)
  pub in_named : incarnation_after 1 earlier ≡ h.incarnation

-- what a write keeps
abbrev pub kept_of : WriteState → List ℕ → Kept
kept_of s value = put_value s.key s.nonce s.expiry value

pub holder_holds : (n : ℕ) (w : WorldValue) (k : ℕ) (s : WriteState) (value : List ℕ) (i : ℕ) (h : Holder) → IsSound w → RepliesSince (new_world n) w → slice_get w.calls k ≡ Some (call.Write s)
    → s.ask ≡ Put s.nonce s.key s.nonce s.expiry value → slice_get (take s.least (filter_map holder_of s.asks)) i ≡ Some h → Holds w h (kept_of s value)
holder_holds n w k s value i h sound replies there ask_is holder =
    let at : HolderAsk s.asks h = holder_ask s.asks i h (get_taken s.least (filter_map holder_of s.asks) i h holder) in
    let called : WriteIsSound w s = sound.calls k (call.Write s) there in
    let came : (frame : Frame) × WasSent w at.ask.who frame × (put_lawful s.nonce s.key at.ask.who frame ≡ Some (put.Stored h.incarnation)) = called.replies at.place at.ask (put.Stored h.incarnation) at.there at.ear_is in
    let frame_is : came.0 ≡ Stored s.nonce s.key s.nonce at.ask.who h.incarnation = lawful_stored s.nonce s.key at.ask.who came.0 h.incarnation came.2 in
    let p : Packet = record { brick = h.brick; frame = Stored s.nonce s.key s.nonce at.ask.who h.incarnation } in
    let was : slice_get w.packets came.1.0 ≡ Some p = came.1.1 ∙ (λ l. Some (record { brick = at.who_is l; frame = frame_is l })) in
    let made : WasMade (new_world n) w p = replies.each came.1.0 p (omega arith) was refl in
    let asked : WasAsked w made.request = ask_of_call w h.brick made.request (sound.requests made.was_sent.0 (record { brick = h.brick; frame = made.request }) made.was_sent.1 made.asks) in
    let for : StoredFor made.earlier made.request s.nonce s.key s.nonce h.incarnation = stored_for h.brick at.ask.who made.earlier made.request s.nonce s.key s.nonce h.incarnation made.reply_is in
    let A : Frame → Type 0 = λ f. WasAsked w f in
    let one : Put s.nonce s.key s.nonce for.expiry for.value ≡ Put s.nonce s.key s.nonce s.expiry value = one_ask w _ _ sound (subst A for.request_is asked) (k, call.Write s, there, ask_is) refl in
    let expiry : for.expiry ≡ s.expiry = cc in
    let value_is : for.value ≡ value = cc in
    record {
      earlier = made.earlier;
      later = made.later;
      history_is = made.history_is ∙ ap (λ g. Some (made.later ++ g)) (for.heard_is ∙ (λ l. happened.Stored (put_value s.key s.nonce (expiry l) (value_is l)) ∷ made.earlier));
      in_named = for.incarnation_is;
    }

-- and it keeps it
pub keeps_value : (w : WorldValue) (n : Version) (k : SessionKey) (d : Moment) (x : List ℕ) (h : Holder) → IsSound w → WasAsked w (Put n k n d x) → Holds w h (put_value k n d x) → Keeps w h (put_value k n d x)
keeps_value w n k d x h sound was holds =
    let s : Kept = put_value k n d x in
    let events : List BrickEvent = holds.later ++ happened.Stored s ∷ holds.earlier in
    let all : AllStored (WasWritten w h.brick) holds.later = stored_front (WasWritten w h.brick) holds.later (happened.Stored s ∷ holds.earlier) (sound.stored h.brick events holds.history_is) in
    let same : AllStored (λ (t : Kept). is_under k n t ≡ true → t ≡ s) holds.later =
    stored_weaker (WasWritten w h.brick) (λ (t : Kept). is_under k n t ≡ true → t ≡ s) holds.later
    (λ t written under. written_is w h.brick n k d x t sound was written (both (same_key k t.key) (same_version n t.version) under).1)
    all in
    record {
      events = events;
      history_is = holds.history_is;
      stored = record { earlier = holds.earlier; later = holds.later; parts = refl; incarnation_is = holds.in_named };
      holds = λ uncrashed quiet. held_on holds.later holds.earlier s same (uncrashed ∙ sym holds.in_named) quiet;
    }

-- each holder of an acknowledged cookie keeps its value
pub acknowledged_keeps : (n : ℕ) (es : List WorldEvent) (cookie : Cookie) (value : List ℕ) (i : ℕ) (h : Holder) → IsAcknowledged (after (new_world n) es) cookie value → slice_get cookie.bricks i ≡ Some h → Keeps (after (new_world n) es) h (kept_for cookie value)
acknowledged_keeps n es cookie value i h acknowledged holder =
    let w : WorldValue = after (new_world n) es in
    let sound : IsSound w = world_is_sound n es in
    let s : WriteState = acknowledged.write in
    let is : cookie_of s ≡ cookie = (answer_cookie s cookie acknowledged.answers).0 in
    let among : slice_get (take s.least (filter_map holder_of s.asks)) i ≡ Some h = ap (λ (c : Cookie). slice_get c.bricks i) is ∙ holder in
    let holds : Holds w h (kept_of s value) = holder_holds n w acknowledged.place s value i h sound (world_replies n es) acknowledged.there acknowledged.value_is among in
    let keeps : Keeps w h (kept_of s value) = keeps_value w s.nonce s.key s.expiry value h sound (acknowledged.place, call.Write s, acknowledged.there, acknowledged.value_is) holds in
    let P : Cookie → Type 0 = λ c. Keeps w h (kept_for c value) in
    subst P is keeps

-- each Put of one version carries one value, under one key and with one expiry
pub one_put : (n : ℕ) (es : List WorldEvent) (i j : ℕ) (a b : BrickNo) (m o : Version) (k l : SessionKey) (v : Version) (d e : Moment) (y z : List ℕ)
    → slice_get (after (new_world n) es).packets i ≡ Some (record { brick = a; frame = Put m k v d y }) → slice_get (after (new_world n) es).packets j ≡ Some (record { brick = b; frame = Put o l v e z })
    → (k ≡ l) × (d ≡ e) × (y ≡ z)
one_put n es i j a b m o k l v d e y z at_i at_j =
    let w : WorldValue = after (new_world n) es in
    let sound : IsSound w = world_is_sound n es in
    let first : WasAsked w (Put m k v d y) = ask_of_call w a (Put m k v d y) (sound.requests i (record { brick = a; frame = Put m k v d y }) at_i refl) in
    let second : WasAsked w (Put o l v e z) = ask_of_call w b (Put o l v e z) (sound.requests j (record { brick = b; frame = Put o l v e z }) at_j refl) in
    let nonce : m ≡ o = put_asked w m k v d y sound first ∙ sym (put_asked w o l v e z sound second) in
    let one : Put m k v d y ≡ Put o l v e z = one_ask w _ _ sound first second nonce in
    (cc, cc, cc)
