-- A read that began in a world in which its cookie was acknowledged, and what its holders replied to it.
use Rattle.std.proofs.Common.{◌≡◌, inl, inr, ℕ, ◌≤◌, true, false, if◌then◌else◌, List, ◌∷◌, ◌++◌, length, take, Some, refl, sym, ap, ◌∙◌, subst, arith, append_assoc, get_or}
use Rattle.std.specs.Prelude.{slice_get}
use Rattle.std.specs.List.{filter_map}
use Rattle.std.proofs.lemmas.Bool.{cases_lt}
use Rattle.std.proofs.lemmas.Option.{slice_get-get_or}
use Rattle.crash_base.specs.declared.numbers.Moment.{Moment}
use Rattle.crash_base.specs.Same.{same_version, same_key}
use Rattle.session_cookie.specs.declared.cookie.Cookie.{Cookie}
use Rattle.session_cookie.specs.declared.cookie.Holder.{Holder}
use Rattle.ssm_frames.specs.declared.frame.Frame.{Frame}
use Rattle.ssm_frames.specs.declared.frame.Frame.TheVariants.{Put, Get, Found}
use Rattle.ssm_frames.specs.Requests.{is_request}
use Rattle.brick_store.specs.declared.event.BrickEvent.{BrickEvent}
use Rattle.brick_store.specs.declared.event.BrickEvent.TheVariants as happened
use Rattle.brick_store.specs.declared.kept.Kept.{Kept}
use Rattle.brick_store.specs.Bricks.{reply}
use Rattle.brick_store.specs.History.{incarnation_after}
use Rattle.brick_store.specs.Kept.{is_under}
use Rattle.brick_store.specs.Standing.{heard}
use Rattle.ssm_stub.specs.declared.reply.ReadReply.{ReadReply}
use Rattle.ssm_stub.specs.Turns.{none_asked}
use Rattle.ssm_stub.specs.Writes.{WriteState, holder_of}
use Rattle.ssm_stub.specs.Reads.{ReadState, read_start}
use Rattle.ssm_world.specs.declared.call.Call.{Call}
use Rattle.ssm_world.specs.declared.call.Call.TheVariants as call
use Rattle.ssm_world.specs.declared.event.Packet.{Packet}
use Rattle.ssm_world.specs.declared.event.WorldEvent.{WorldEvent}
use Rattle.ssm_world.specs.declared.event.WorldEvent.TheVariants.{Read}
use Rattle.ssm_world.specs.Facts.{AllStored, frame_nonce}
use Rattle.ssm_world.specs.Worlds.{WorldValue, new_world, nonce_of, history, with_new_call, is_new, bricks_of, are_distinct, may_read, brick_after, after}
use Rattle.ssm_world.specs.Sound.{asked_of, untold, WasSent, Grows, WasMade, RepliesSince, WasWritten, IsSound}
use Rattle.ssm_world.specs.Traces.{all_told}
use Rattle.ssm_world.specs.Claims.{kept_for, ReadOrder, begun, read_world, ReadAfter}
use Rattle.ssm_world.proofs.CallAsks.{asked_nonce, one_ask}
use Rattle.ssm_world.proofs.Asks.{asked_none}
use Rattle.ssm_world.proofs.Growing.{WasAsked, ask_of_call, asked_stays}
use Rattle.ssm_world.proofs.Histories.{stored_behind, held_was_stored}
use Rattle.ssm_world.proofs.Holding.{cookie_of, answer_cookie, Holds, holder_holds, kept_of, written_is}
use Rattle.ssm_world.proofs.Lists.{get_new, none_passes}
use Rattle.ssm_world.proofs.Replying.{FoundFor, found_for, RepliesTo, reply_to}
use Rattle.ssm_world.proofs.Steps.{after_stays, world_is_sound, world_replies, replies_since}
use Rattle.ssm_stub.proofs.Tests.{both, version_same}
use Rattle.ssm_world.proofs.Tracing.{IsReadRun, read_runs}

-- What the proofs use of the world in which a read began and of a later one: both are sound, each reply was made by
-- its brick, and those that were sent since the read began were made since; the holders hold the value, and both
-- the value's write and the read asked.
pub record Scene (n : ℕ) (w v : WorldValue) (order : ReadOrder) (value : List ℕ) : Type 0 where
  pub early : IsSound w
  pub late : IsSound v
  pub grows : Grows w v
  pub early_made : RepliesSince (new_world n) w
  pub all_made : RepliesSince (new_world n) v
  pub new_made : RepliesSince w v
  pub new_nonce : is_new w order.nonce ≡ true
  pub holds : (i : ℕ) (h : Holder) → slice_get order.cookie.bricks i ≡ Some h → Holds w h (kept_for order.cookie value)
  pub wrote : WasAsked v (Put order.cookie.version order.cookie.key order.cookie.version order.cookie.expiry value)
  pub asked : WasAsked v (Get order.nonce order.cookie.key order.cookie.version)

-- The read is of its order.
pub record IsOrdered (r : ReadState) (order : ReadOrder) : Type 0 where
  pub nonce_is : r.nonce ≡ order.nonce
  pub moment_is : r.moment ≡ order.moment
  pub key_is : r.key ≡ order.cookie.key
  pub version_is : r.version ≡ order.cookie.version
  pub expiry_is : r.expiry ≡ order.cookie.expiry
  pub holders_are : asked_of r.asks ≡ order.cookie.bricks

-- the holders of an acknowledged cookie hold the value
acknowledged_holds : (n : ℕ) (es : List WorldEvent) (order : ReadOrder) (value : List ℕ) (later : List WorldEvent) (r : ReadState) → ReadAfter (after (new_world n) es) order value later r
    → (i : ℕ) (h : Holder) → slice_get order.cookie.bricks i ≡ Some h → Holds (after (new_world n) es) h (kept_for order.cookie value)
acknowledged_holds n es order value later r read = λ i h there.
    let w : WorldValue = after (new_world n) es in
    let s : WriteState = read.acknowledged.write in
    let is : cookie_of s ≡ order.cookie = (answer_cookie s order.cookie read.acknowledged.answers).0 in
    let among : slice_get (take s.least (filter_map holder_of s.asks)) i ≡ Some h = ap (λ (c : Cookie). slice_get c.bricks i) is ∙ there in
    let holds : Holds w h (kept_of s value) = holder_holds n w read.acknowledged.place s value i h (world_is_sound n es) (world_replies n es) read.acknowledged.there read.acknowledged.value_is among in
    let P : Cookie → Type 0 = λ c. Holds w h (kept_for c value) in
    subst P is holds

-- and its write asked for it
acknowledged_wrote : (w : WorldValue) (order : ReadOrder) (value : List ℕ) (later : List WorldEvent) (r : ReadState) → ReadAfter w order value later r
    → WasAsked w (Put order.cookie.version order.cookie.key order.cookie.version order.cookie.expiry value)
acknowledged_wrote w order value later r read =
    let s : WriteState = read.acknowledged.write in
    let is : cookie_of s ≡ order.cookie = (answer_cookie s order.cookie read.acknowledged.answers).0 in
    let P : Cookie → Type 0 = λ c. WasAsked w (Put c.version c.key c.version c.expiry value) in
    subst P is (read.acknowledged.place, call.Write s, read.acknowledged.there, read.acknowledged.value_is)

-- the read as it began
read_there : (w : WorldValue) (order : ReadOrder) → may_read w order.nonce order.cookie.bricks ≡ true → slice_get (begun w order).calls (length w.calls) ≡ Some (call.Read (read_start order.moment order.nonce order.cookie))
read_there w order may =
    let c : Call = call.Read (read_start order.moment order.nonce order.cookie) in
    let starts : begun w order ≡ with_new_call w c = ap (λ b. if b then with_new_call w c else w) may in
    ap (λ (u : WorldValue). slice_get u.calls (length w.calls)) starts ∙ get_new w.calls c

pub scene : (n : ℕ) (es : List WorldEvent) (order : ReadOrder) (value : List ℕ) (later : List WorldEvent) (r : ReadState) → ReadAfter (after (new_world n) es) order value later r
    → Scene n (after (new_world n) es) (read_world (after (new_world n) es) order later) order value
scene n es order value later r read =
    let w : WorldValue = after (new_world n) es in
    let v : WorldValue = read_world w order later in
    let e : WorldEvent = Read order.nonce order.moment order.cookie in
    let early : IsSound w = world_is_sound n es in
    let grows : Grows w v = (after_stays w w (e ∷ later)).grows in
    let since : Grows (begun w order) v = (after_stays w (begun w order) later).grows in
    let asks : WasAsked (begun w order) (Get order.nonce order.cookie.key order.cookie.version) = (length w.calls, call.Read (read_start order.moment order.nonce order.cookie), read_there w order read.may_begin, refl) in
    record {
      early = early;
      late = (after_stays w w (e ∷ later)).sound early;
      grows = grows;
      early_made = world_replies n es;
      all_made = (after_stays (new_world n) w (e ∷ later)).replies early (after_stays (new_world n) (new_world n) es).grows (world_replies n es);
      new_made = replies_since w (e ∷ later) early;
      new_nonce = (both _ _ read.may_begin).0;
      holds = acknowledged_holds n es order value later r read;
      wrote = asked_stays w v _ grows (acknowledged_wrote w order value later r read);
      asked = asked_stays (begun w order) v _ since asks;
    }

pub ordered : (w : WorldValue) (order : ReadOrder) (value : List ℕ) (later : List WorldEvent) (r : ReadState) → ReadAfter w order value later r → IsOrdered r order
ordered w order value later r read =
    let start : ReadState = read_start order.moment order.nonce order.cookie in
    let v : WorldValue = read_world w order later in
    let since : Grows (begun w order) v = (after_stays w (begun w order) later).grows in
    let now : (d : Call) × (slice_get v.calls (length w.calls) ≡ Some d) × (untold d ≡ untold (call.Read start)) = since.calls (length w.calls) (call.Read start) (read_there w order read.may_begin) in
    let one : Some now.0 ≡ Some (call.Read r) = sym now.1 ∙ read.there in
    let called : now.0 ≡ call.Read r = cc in
    let same : untold (call.Read r) ≡ untold (call.Read start) = ap untold (sym called) ∙ now.2 in
    let states : record r { asks = none_asked {W = Holder} {A = ReadReply} (asked_of r.asks) } ≡ record start { asks = none_asked {W = Holder} {A = ReadReply} (asked_of start.asks) } = cc in
    record {
      nonce_is = ap (λ (s : ReadState). s.nonce) states;
      moment_is = ap (λ (s : ReadState). s.moment) states;
      key_is = ap (λ (s : ReadState). s.key) states;
      version_is = ap (λ (s : ReadState). s.version) states;
      expiry_is = ap (λ (s : ReadState). s.expiry) states;
      holders_are =
          sym (asked_none ReadReply (asked_of r.asks)) ∙ ap (λ (s : ReadState). asked_of s.asks) states
          ∙ asked_none ReadReply (asked_of start.asks) ∙ asked_none ReadReply order.cookie.bricks;
    }

-- and it is a run of its machine
pub runs : (w : WorldValue) (order : ReadOrder) (value : List ℕ) (later : List WorldEvent) (r : ReadState) → ReadAfter w order value later r
    → IsReadRun (read_world w order later) (length w.calls) (read_start order.moment order.nonce order.cookie) (all_told (begun w order) (length w.calls) later)
runs w order value later r read = read_runs (begun w order) (length w.calls) (read_start order.moment order.nonce order.cookie) later (read_there w order read.may_begin)

-- its holders are distinct bricks
pub distinct : (w : WorldValue) (order : ReadOrder) (value : List ℕ) (later : List WorldEvent) (r : ReadState) → ReadAfter w order value later r → are_distinct (bricks_of order.cookie.bricks) ≡ true
distinct w order value later r read = (both _ _ (both _ _ read.may_begin).1).1

-- what a Found to the read gives was written
pub found_is : (n : ℕ) (w v : WorldValue) (order : ReadOrder) (value : List ℕ) (h : Holder) (i : ℕ) (until : Moment) (x : List ℕ) → Scene n w v order value
    → WasSent v h.brick (Found order.nonce order.cookie.key order.cookie.version h.brick i until x) → x ≡ value
found_is n w v order value h i until x s was =
    let p : Packet = record { brick = h.brick; frame = Found order.nonce order.cookie.key order.cookie.version h.brick i until x } in
    let made : WasMade (new_world n) v p = s.all_made.each was.0 p (omega arith) was.1 refl in
    let for : FoundFor made.earlier made.request order.nonce order.cookie.key order.cookie.version x = found_for h.brick h.brick made.earlier made.request _ _ _ _ _ _ made.reply_is in
    let history_now : history v h.brick ≡ Some (made.later ++ made.earlier) = made.history_is ∙ ap (λ f. Some (made.later ++ heard made.earlier f)) for.request_is in
    let all : AllStored (WasWritten v h.brick) made.earlier = stored_behind (WasWritten v h.brick) made.later made.earlier (s.late.stored h.brick (made.later ++ made.earlier) history_now) in
    let was_stored : WasWritten v h.brick for.found × (is_under order.cookie.key order.cookie.version for.found ≡ true) = held_was_stored (WasWritten v h.brick) made.earlier order.cookie.key order.cookie.version for.found all for.held_is in
    let version : same_version order.cookie.version for.found.version ≡ true = (both (same_key order.cookie.key for.found.key) (same_version order.cookie.version for.found.version) was_stored.1).1 in
    let same : for.found ≡ kept_for order.cookie value = written_is v h.brick order.cookie.version order.cookie.key order.cookie.expiry value for.found s.late s.wrote was_stored.0 version in
    sym for.value_is ∙ ap (λ (k : Kept). k.value) same

-- a reply with the read's nonce was sent after the read began
is_since : (n : ℕ) (w v : WorldValue) (order : ReadOrder) (value : List ℕ) (i : ℕ) (p : Packet) → Scene n w v order value → slice_get v.packets i ≡ Some p → is_request p.frame ≡ false → frame_nonce p.frame ≡ order.nonce → length w.packets ≤ i
is_since n w v order value i p s there none nonce = elim (cases_lt i (length w.packets)) [
  | inr since ↦ since
  | inl before ↦ absurd (
      let at : slice_get w.packets i ≡ Some (get_or w.packets i p) = slice_get-get_or w.packets i p before in
      let later : slice_get v.packets i ≡ Some (get_or w.packets i p) = s.grows.packets i (get_or w.packets i p) at in
      let one : Some (get_or w.packets i p) ≡ Some p = sym later ∙ there in
      let same : get_or w.packets i p ≡ p = cc in
      let was : slice_get w.packets i ≡ Some p = at ∙ ap (λ q. Some q) same in
      let made : WasMade (new_world n) w p = s.early_made.each i p (omega arith) was none in
      let asked : WasAsked w made.request = ask_of_call w p.brick made.request (s.early.requests made.was_sent.0 (record { brick = p.brick; frame = made.request }) made.was_sent.1 made.asks) in
      let to : RepliesTo made.request p.frame = reply_to p.brick made.earlier made.request p.frame made.reply_is in
      let its : nonce_of asked.1 ≡ order.nonce = asked_nonce w made.request s.early asked ∙ sym to.nonce_is ∙ nonce in
      let apart : same_version (nonce_of asked.1) order.nonce ≡ false = none_passes (λ (c : Call). same_version (nonce_of c) order.nonce) w.calls asked.0 asked.1 s.new_nonce asked.2 in
      let equal : same_version (nonce_of asked.1) order.nonce ≡ true = ap (λ m. same_version m order.nonce) its ∙ version_same order.nonce in
      cc)
]

-- A reply to the read by one of its holders: what the brick had behind it when it made it.
pub record Replied (v : WorldValue) (order : ReadOrder) (value : List ℕ) (h : Holder) (frame : Frame) : Type 0 where
  pub since : List BrickEvent
  pub between : List BrickEvent
  pub before : List BrickEvent
  pub history_is : history v h.brick ≡ Some (since ++ (between ++ happened.Stored (kept_for order.cookie value) ∷ before))
  pub in_named : incarnation_after 1 before ≡ h.incarnation
  pub reply_is : reply (brick_after h.brick (between ++ happened.Stored (kept_for order.cookie value) ∷ before)) (Get order.nonce order.cookie.key order.cookie.version) ≡ Some frame

pub replied : (n : ℕ) (w v : WorldValue) (order : ReadOrder) (value : List ℕ) (i : ℕ) (h : Holder) (frame : Frame) → Scene n w v order value → slice_get order.cookie.bricks i ≡ Some h
    → WasSent v h.brick frame → is_request frame ≡ false → frame_nonce frame ≡ order.nonce → Replied v order value h frame
replied n w v order value i h frame s among was none nonce =
    let kept : Kept = kept_for order.cookie value in
    let p : Packet = record { brick = h.brick; frame = frame } in
    let holds : Holds w h kept = s.holds i h among in
    let made : WasMade w v p = s.new_made.each was.0 p (is_since n w v order value was.0 p s was.1 none nonce) was.1 none in
    let asked : WasAsked v made.request = ask_of_call v h.brick made.request (s.late.requests made.was_sent.0 (record { brick = h.brick; frame = made.request }) made.was_sent.1 made.asks) in
    let to : RepliesTo made.request frame = reply_to h.brick made.earlier made.request frame made.reply_is in
    let get : made.request ≡ Get order.nonce order.cookie.key order.cookie.version = one_ask v made.request (Get order.nonce order.cookie.key order.cookie.version) s.late asked s.asked (sym to.nonce_is ∙ nonce) in
    let newer : (newer : List BrickEvent) × (made.earlier ≡ newer ++ (holds.later ++ happened.Stored kept ∷ holds.earlier)) = made.since_then (holds.later ++ happened.Stored kept ∷ holds.earlier) holds.history_is in
    let earlier_is : made.earlier ≡ (newer.0 ++ holds.later) ++ happened.Stored kept ∷ holds.earlier = newer.1 ∙ sym (append_assoc newer.0 holds.later (happened.Stored kept ∷ holds.earlier)) in
    record {
      since = made.later;
      between = newer.0 ++ holds.later;
      before = holds.earlier;
      history_is = made.history_is ∙ ap (λ f. Some (made.later ++ heard made.earlier f)) get ∙ ap (λ g. Some (made.later ++ g)) earlier_is;
      in_named = holds.in_named;
      reply_is = (λ l. reply (brick_after h.brick (sym earlier_is l)) (sym get l)) ∙ made.reply_is;
    }
