-- Why a write of a world was missed.
use Rattle.std.proofs.Common.{◌≡◌, inl, inr, ℕ, ◌≤◌, true, false, List, ◌∷◌, ◌++◌, length, get_or, map, All, Some, Err, refl, sym, ap, ◌∙◌, subst, arith}
use Rattle.std.specs.Prelude.{slice_get, option_map}
use Rattle.std.proofs.lemmas.Bool.{cases_lt}
use Rattle.std.proofs.lemmas.Option.{slice_get-map, slice_get-get_or}
use Rattle.crash_base.specs.declared.numbers.BrickNo.{BrickNo}
use Rattle.crash_base.specs.declared.numbers.Version.{Version}
use Rattle.crash_base.specs.Same.{same_version}
use Rattle.ssm_frames.specs.declared.frame.Frame.{Frame}
use Rattle.ssm_frames.specs.declared.frame.Frame.TheVariants.{Put, BrickFull}
use Rattle.ssm_frames.specs.Requests.{is_request}
use Rattle.brick_store.specs.Kept.{is_full}
use Rattle.brick_store.specs.Bricks.{put_value}
use Rattle.brick_store.specs.History.{all_held}
use Rattle.ssm_stub.specs.declared.ask.Ask.{Ask}
use Rattle.ssm_stub.specs.declared.cause.BrickCause.{BrickCause}
use Rattle.ssm_stub.specs.declared.cause.Cause.{Cause}
use Rattle.ssm_stub.specs.declared.cause.Cause.TheVariants as cause
use Rattle.ssm_stub.specs.declared.ear.Ear.{Ear}
use Rattle.ssm_stub.specs.declared.ear.Ear.TheVariants.{Open, Heard}
use Rattle.ssm_stub.specs.declared.ear.Outcome.{Outcome}
use Rattle.ssm_stub.specs.declared.ear.Outcome.TheVariants as outcome
use Rattle.ssm_stub.specs.declared.event.Told.{Told}
use Rattle.ssm_stub.specs.declared.reply.WriteReply.{WriteReply}
use Rattle.ssm_stub.specs.declared.reply.WriteReply.TheVariants as put
use Rattle.ssm_stub.specs.declared.write_call.WriteRefusal.TheVariants.{Missed}
use Rattle.ssm_stub.specs.Ears.{ear_after}
use Rattle.ssm_stub.specs.Outcomes.{missed_of, IsMissedBy}
use Rattle.ssm_stub.specs.Runs.{after as run}
use Rattle.ssm_stub.specs.Turns.{none_asked, turn_after_asks}
use Rattle.ssm_stub.specs.Writes.{WriteState, put_lawful, cause_by, with_brick, write_answer, write_machine}
use Rattle.ssm_stub.proofs.ByEvents.{ask_by, Heard as HeardBy, heard_by_events}
use Rattle.ssm_stub.proofs.HearingEnds.{heard_so}
use Rattle.ssm_stub.proofs.OwnEvents.{write_asking}
use Rattle.ssm_stub.proofs.WriteFacts.{told_facts}
use Rattle.ssm_stub.proofs.WriteOutcomes.{all_found, missed_told}
use Rattle.ssm_world.specs.declared.call.Call.{Call}
use Rattle.ssm_world.specs.declared.call.Call.TheVariants as call
use Rattle.ssm_world.specs.declared.event.Packet.{Packet}
use Rattle.ssm_world.specs.declared.event.WorldEvent.{WorldEvent}
use Rattle.ssm_world.specs.Facts.{frame_nonce}
use Rattle.ssm_world.specs.Worlds.{WorldValue, new_world, nonce_of, is_new, are_distinct, after}
use Rattle.ssm_world.specs.Sound.{WasSent, Grows, WasMade, IsSound, RepliesSince, WriteIsSound}
use Rattle.ssm_world.specs.Claims.{WriteOrder, write_event, write_state, told_to_write, told_to_write_of, kept_by, HadNoRoom, EndsAs, IsMissCause, WasMissed}
use Rattle.ssm_world.proofs.CallAsks.{asked_nonce, one_ask}
use Rattle.ssm_world.proofs.Growing.{WasAsked, ask_of_call}
use Rattle.ssm_world.proofs.Lawful.{lawful_full}
use Rattle.ssm_world.proofs.Lists.{none_passes}
use Rattle.ssm_world.proofs.Origins.{Origin, Story, story, run_keeps, after_append}
use Rattle.ssm_world.proofs.Replying.{FullFor, full_for, RepliesTo, reply_to}
use Rattle.ssm_world.proofs.Steps.{world_is_sound, world_replies, worlds_grow, worlds_reply}
use Rattle.ssm_stub.proofs.Tests.{both, version_same}
use Rattle.ssm_world.proofs.Tracing.{bricks_differ}

-- the replies of a world that have this nonce were sent no earlier than another
abbrev AreSince : WorldValue → WorldValue → Version → Type 0
AreSince since w nonce = (i : ℕ) (p : Packet) → slice_get w.packets i ≡ Some p → is_request p.frame ≡ false → frame_nonce p.frame ≡ nonce → length since.packets ≤ i

-- and so are those of a nonce that was new then
are_sent_since : (n : ℕ) (es later : List WorldEvent) (nonce : Version) → is_new (after (new_world n) es) nonce ≡ true → AreSince (after (new_world n) es) (after (after (new_world n) es) later) nonce
are_sent_since n es later nonce new i p there none is = elim (cases_lt i (length w.packets)) [
  | inr since ↦ since
  | inl before ↦ absurd (
      let at : slice_get w.packets i ≡ Some (get_or w.packets i p) = slice_get-get_or w.packets i p before in
      let grows : Grows w (after w later) = worlds_grow n es later in
      let still : slice_get (after w later).packets i ≡ Some (get_or w.packets i p) = grows.packets i (get_or w.packets i p) at in
      let one : Some (get_or w.packets i p) ≡ Some p = sym still ∙ there in
      let same : get_or w.packets i p ≡ p = cc in
      let was : slice_get w.packets i ≡ Some p = at ∙ ap (λ q. Some q) same in
      let sound : IsSound w = world_is_sound n es in
      let made : WasMade (new_world n) w p = (world_replies n es).each i p (omega arith) was none in
      let asked : WasAsked w made.request = ask_of_call w p.brick made.request (sound.requests made.was_sent.0 (record { brick = p.brick; frame = made.request }) made.was_sent.1 made.asks) in
      let to : RepliesTo made.request p.frame = reply_to p.brick made.earlier made.request p.frame made.reply_is in
      let its : nonce_of asked.1 ≡ nonce = asked_nonce w made.request sound asked ∙ sym to.nonce_is ∙ is in
      let apart : same_version (nonce_of asked.1) nonce ≡ false = none_passes (λ (c : Call). same_version (nonce_of c) nonce) w.calls asked.0 asked.1 new asked.2 in
      let equal : same_version (nonce_of asked.1) nonce ≡ true = ap (λ m. same_version m nonce) its ∙ version_same nonce in
      cc)
] where
  w : WorldValue
  w = after (new_world n) es

-- a brick that told a write that it is full had no room for its value, since no reply to the write was sent
no_room : (since w : WorldValue) (k : ℕ) (s : WriteState) (value : List ℕ) (i : ℕ) (a : Ask BrickNo WriteReply) (entries bytes : ℕ) → IsSound w → RepliesSince since w → AreSince since w s.nonce → slice_get w.calls k ≡ Some (call.Write s)
    → s.ask ≡ Put s.nonce s.key s.nonce s.expiry value → slice_get s.asks i ≡ Some a → a.ear ≡ Heard (outcome.Answered (put.Full entries bytes))
    → HadNoRoom since w a.who (put_value s.key s.nonce s.expiry value) entries bytes
no_room since w k s value i a entries bytes sound replies are_since there ask_is asked ear =
    let called : WriteIsSound w s = sound.calls k (call.Write s) there in
    let came : (frame : Frame) × WasSent w a.who frame × (put_lawful s.nonce s.key a.who frame ≡ Some (put.Full entries bytes)) = called.replies i a (put.Full entries bytes) asked ear in
    let full : (j : ℕ) × (came.0 ≡ BrickFull s.nonce s.key s.nonce a.who j entries bytes) = lawful_full s.nonce s.key a.who came.0 entries bytes came.2 in
    let p : Packet = record { brick = a.who; frame = BrickFull s.nonce s.key s.nonce a.who full.0 entries bytes } in
    let was : slice_get w.packets came.1.0 ≡ Some p = came.1.1 ∙ ap (λ f. Some (record { brick = a.who; frame = f })) full.1 in
    let made : WasMade since w p = replies.each came.1.0 p (are_since came.1.0 p was refl refl) was refl in
    let request : WasAsked w made.request = ask_of_call w a.who made.request (sound.requests made.was_sent.0 (record { brick = a.who; frame = made.request }) made.was_sent.1 made.asks) in
    let for : FullFor made.earlier made.request s.nonce s.key s.nonce entries bytes = full_for a.who a.who made.earlier made.request s.nonce s.key s.nonce full.0 entries bytes made.reply_is in
    let A : Frame → Type 0 = λ f. WasAsked w f in
    let one : Put s.nonce s.key s.nonce for.expiry for.value ≡ Put s.nonce s.key s.nonce s.expiry value = one_ask w _ _ sound (subst A for.request_is request) (k, call.Write s, there, ask_is) refl in
    let expiry : for.expiry ≡ s.expiry = cc in
    let value_is : for.value ≡ value = cc in
    record {
      earlier = made.earlier;
      later = made.later;
      history_is = made.history_is ∙ ap (λ g. Some (made.later ++ g)) for.heard_is;
      since_then = made.since_then;
      full = (λ l. is_full (all_held made.earlier) (put_value s.key s.nonce (sym expiry l) (sym value_is l))) ∙ for.full;
      entries_are = for.entries_are;
      bytes_are = for.bytes_are;
    }

-- a brick of a write with its cause
pub record Missing (since w : WorldValue) (order : WriteOrder) (told : BrickNo → List Told) (brick : BrickNo) (c : BrickCause) : Type 0 where
  pub brick_is : brick ≡ c.brick
  pub why : IsMissCause since w order brick (told brick) c.cause

missing_as : (since w : WorldValue) (order : WriteOrder) (told : BrickNo → List Told) (brick : BrickNo) (why : Cause) (c : BrickCause) → Some (record { brick = brick; cause = why }) ≡ Some c → IsMissCause since w order brick (told brick) why
    → Missing since w order told brick c
missing_as since w order told brick why c e is =
    let same : record { brick = brick; cause = why } ≡ c = cc in
    let P : BrickCause → Type 0 = λ x. Missing since w order told brick x in
    subst P same (record { brick_is = refl; why = is })

missing : (since w : WorldValue) (order : WriteOrder) (told : BrickNo → List Told) (brick : BrickNo) (ear : Ear WriteReply) (c : BrickCause) → with_brick brick (cause_by ear) ≡ Some c
    → ((o : Outcome WriteReply) → ear ≡ Heard o → EndsAs order brick (told brick) o)
    → ((entries bytes : ℕ) → ear ≡ Heard (outcome.Answered (put.Full entries bytes)) → HadNoRoom since w brick (kept_by order) entries bytes)
    → Missing since w order told brick c
missing since w order told brick (Open stage) c e ends full = absurd (cc)
missing since w order told brick (Heard (outcome.Answered (put.Stored i))) c e ends full = absurd (cc)
missing since w order told brick (Heard (outcome.Answered (put.Full entries bytes))) c e ends full =
    missing_as since w order told brick (cause.Full entries bytes) c e (ends (outcome.Answered (put.Full entries bytes)) refl, full entries bytes refl)
missing since w order told brick (Heard outcome.Silent) c e ends full = missing_as since w order told brick cause.Silent c e (ends outcome.Silent refl)
missing since w order told brick (Heard outcome.Strayed) c e ends full = missing_as since w order told brick cause.Strayed c e (ends outcome.Strayed refl)

pub missed_for : (n : ℕ) (events : List WorldEvent) (place : ℕ) (s : WriteState) (causes : List BrickCause) → slice_get (after (new_world n) events).calls place ≡ Some (call.Write s) → write_answer s ≡ Some (Err (Missed causes))
    → WasMissed n events place s causes
missed_for n events place s causes there answers =
    let v : WorldValue = after (new_world n) events in
    let t : Story n events place s = story n events place s there in
    let o : Origin (new_world n) events place = t.began in
    let order : WriteOrder = o.order in
    let w : WorldValue = after (new_world n) o.earlier in
    let start : WriteState = write_state order in
    let all : List Told = told_to_write w order o.later in
    let told : BrickNo → List Told = told_to_write_of w order o.later in
    let mk : BrickNo → Ask BrickNo WriteReply = ask_by (λ (b : BrickNo). b) (put_lawful order.nonce order.key) told in
    let asks : List (Ask BrickNo WriteReply) = map mk order.bricks in
    let distinct : are_distinct order.bricks ≡ true = (both _ _ (both _ _ (both _ _ o.may_begin).0).1).1 in
    let heard : HeardBy (λ (b : BrickNo). b) (put_lawful order.nonce order.key) told order.bricks (run write_machine start all).asks =
    heard_by_events write_machine (λ (r : WriteState). r.asks) (λ (b : BrickNo). b) (λ (r : WriteState). put_lawful r.nonce r.key) (λ (r : WriteState). turn_after_asks r.asks) write_asking all start order.bricks told (λ b. refl) refl (bricks_differ order.bricks distinct) t.fitting in
    let state : s ≡ record start { asks = asks } = t.is ∙ run_keeps all start ∙ ap (λ a. record start { asks = a }) heard.are in
    let facts = told_facts all order.bricks start (Err (Missed causes)) refl (bricks_differ order.bricks distinct) t.fitting (ap write_answer (sym t.is) ∙ answers) in
    let missed : IsMissedBy order.bricks order.least order.nonce order.key told causes = missed_told order.bricks order.least order.nonce order.key order.expiry told causes facts.0 facts.1 in
    let ear_of : BrickNo → Ear WriteReply = λ b. ear_after (put_lawful order.nonce order.key b) (told b) in
    let at : (i : ℕ) (b : BrickNo) → slice_get order.bricks i ≡ Some b → slice_get asks i ≡ Some (mk b) = λ i b here. slice_get-map mk order.bricks i ∙ ap (option_map mk) here in
    let value_is : s.ask ≡ Put s.nonce s.key s.nonce s.expiry order.value = ap (λ (r : WriteState). r.ask) state ∙ sym (ap (λ (r : WriteState). Put r.nonce r.key r.nonce r.expiry order.value) state) in
    let whole : after w (write_event order ∷ o.later) ≡ v = sym (after_append (new_world n) o.earlier (write_event order ∷ o.later)) ∙ ap (after (new_world n)) (sym o.parts) in
    let R : WorldValue → Type 0 = λ x. RepliesSince w x in
    let replies : RepliesSince w v = subst R whole (worlds_reply n o.earlier (write_event order ∷ o.later)) in
    let S : WorldValue → Type 0 = λ x. AreSince w x order.nonce in
    let new : AreSince w v order.nonce = subst S whole (are_sent_since n o.earlier (write_event order ∷ o.later) order.nonce (both _ _ (both _ _ o.may_begin).0).0) in
    let nonce_is : s.nonce ≡ order.nonce = ap (λ (r : WriteState). r.nonce) state in
    let since : AreSince w v s.nonce = λ j p at none is. new j p at none (is ∙ nonce_is) in
    let Q : BrickCause → Type 0 = λ c. IsMissCause w v order c.brick (told c.brick) c.cause in
    let each : (i : ℕ) (b : BrickNo) (c : BrickCause) → slice_get order.bricks i ≡ Some b → missed_of order.nonce order.key told b ≡ Some c → Q c = λ i b c here e.
    let room : (entries bytes : ℕ) → ear_of b ≡ Heard (outcome.Answered (put.Full entries bytes)) → HadNoRoom w v b (kept_by order) entries bytes = λ entries bytes is.
    let K : WriteState → Type 0 = λ r. HadNoRoom w v b (put_value r.key r.nonce r.expiry order.value) entries bytes in
    subst K state (no_room w v place s order.value i (mk b) entries bytes (world_is_sound n events) replies since there value_is (ap (λ (r : WriteState). slice_get r.asks i) state ∙ at i b here) is) in
    let its : Missing w v order told b c = missing w v order told b (ear_of b) c e (λ out is. heard_so (put_lawful order.nonce order.key b) b (told b) out (heard.fitting i b here) is) room in
    let P : BrickNo → Type 0 = λ x. IsMissCause w v order x (told x) c.cause in
    subst P its.brick_is its.why in
    let All_of : List BrickCause → Type 0 = All Q in
    record {
      earlier = o.earlier;
      order = order;
      later = o.later;
      parts = o.parts;
      may_begin = o.may_begin;
      place_is = o.place_is;
      order_is = ap (λ (r : WriteState). record r { asks = none_asked order.bricks }) state;
      few = missed.few;
      causes_are = missed.causes_are;
      all_heard = missed.all_heard;
      each = subst All_of (sym missed.causes_are) (all_found (missed_of order.nonce order.key told) Q order.bricks each);
    }
