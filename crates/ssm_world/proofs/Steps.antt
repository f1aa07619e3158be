-- Each event keeps what holds of a world.
use Rattle.std.proofs.Common.{◌≡◌, ℕ, zero, suc, ◌-◌, ◌^◌, ◌<◌, ◌&&◌, ◌||◌, Bool, true, false, not, if◌then◌else◌, nat_lt, List, [], ◌∷◌, length, Option, Some, None, refl, sym, subst, arith, ◌∙◌}
use Rattle.std.specs.Prelude.{slice_get}
use lib.ListN.{replicate}
use Rattle.std.proofs.lemmas.Option.{slice_get_within}
use Rattle.crash_base.specs.declared.numbers.BrickNo.{BrickNo}
use Rattle.crash_base.specs.declared.numbers.Moment.{Moment}
use Rattle.ssm_frames.specs.declared.frame.Frame.{Frame}
use Rattle.ssm_frames.specs.Requests.{is_request}
use Rattle.brick_store.specs.declared.event.BrickEvent.{BrickEvent}
use Rattle.brick_store.specs.declared.event.BrickEvent.TheVariants as happened
use Rattle.brick_store.specs.Bricks.{reply}
use Rattle.brick_store.specs.History.{incarnation_after}
use Rattle.ssm_stub.specs.declared.event.Told.{Told}
use Rattle.ssm_stub.specs.declared.event.Told.TheVariants as told
use Rattle.ssm_stub.specs.declared.event.StubNext.{StubNext}
use Rattle.ssm_stub.specs.declared.event.StubNext.TheVariants as next
use Rattle.ssm_world.specs.declared.call.Call.{Call}
use Rattle.ssm_world.specs.declared.event.Packet.{Packet}
use Rattle.ssm_world.specs.declared.event.WorldEvent.{WorldEvent}
use Rattle.ssm_world.specs.declared.event.WorldEvent.TheVariants.{Write, Read, Send, Deliver, Hear, Hush, Crash, Sweep}
use Rattle.ssm_world.specs.Facts.{AllStored}
use Rattle.ssm_world.specs.Worlds.{WorldValue, new_world, nonce_of, ask_of, next_of, hear, history, history_at, with_history, with_sent, with_new_call, is_new, same_brick, may_write, may_read, told_by_send, told_by_hush, told_by_packet, packet_by_send, with_told, sent, came, hushed, brick_after, replied, reached, delivered, crashed, swept, step, after}
use Rattle.ssm_world.specs.Sound.{WasSent, bricks_asked, Grows, RepliesSince, WasWritten, IsSound, CallIsSound}
use Rattle.ssm_world.proofs.Asks.{CameIsSent}
use Rattle.ssm_world.proofs.Growing.{grows_same, same_ask, same_bricks}
use Rattle.ssm_world.proofs.Hearing.{hear_untold, hear_is_sound, write_begins, read_begins}
use Rattle.ssm_world.proofs.Keeping.{StaysSound, stays_same, stays_on, new_call_stays, call_stays_sound, request_stays, history_stays, delivery_stays}
use Rattle.ssm_world.proofs.Lists.{get_set_same}
use Rattle.ssm_world.proofs.Sending.{SendsTo, same_sends, next_sends}
use Rattle.ssm_stub.proofs.Tests.{both, brick_is}

-- a call that begins
begins_stay : (since w : WorldValue) (c : Call) (may : Bool) → (may ≡ true → is_new w (nonce_of c) ≡ true) → (may ≡ true → (v : WorldValue) → CallIsSound v c) → StaysSound since w (if may then with_new_call w c else w)
begins_stay since w c false new begins = stays_same since w
begins_stay since w c true new begins = new_call_stays since w c (new refl) (begins refl)

-- a call that is told what comes of what it wants
told_stays : (since w : WorldValue) (k : ℕ) (c : Call) (o : Option Told) → slice_get w.calls k ≡ Some c → ((t : Told) → o ≡ Some t → CameIsSent w (next_of c) t) → StaysSound since w (with_told w k c o)
told_stays since w k c None there comes = stays_same since w
told_stays since w k c (Some t) there comes = call_stays_sound since w k c (hear c t) there (hear_untold c t) (hear_is_sound w c t (comes t refl))

-- nothing comes of a send
send_comes : (w : WorldValue) (silent : Bool) (next : StubNext) (t : Told) → told_by_send silent next ≡ Some t → CameIsSent w next t
send_comes w true (next.Send brick) t is = λ frame came. absurd (let same : told.Silent ≡ t = cc in cc)
send_comes w false (next.Send brick) t is = λ frame came. absurd (let same : told.Sent ≡ t = cc in cc)
send_comes w silent (next.Receive brick) t is = absurd (cc)
send_comes w silent next.Ended t is = absurd (cc)

hush_comes : (w : WorldValue) (next : StubNext) (t : Told) → told_by_hush next ≡ Some t → CameIsSent w next t
hush_comes w (next.Send brick) t is = absurd (cc)
hush_comes w (next.Receive brick) t is = λ frame came. absurd (let same : told.Silent ≡ t = cc in cc)
hush_comes w next.Ended t is = absurd (cc)

packet_comes : (w : WorldValue) (i : ℕ) (packet : Option Packet) (next : StubNext) (t : Told) → slice_get w.packets i ≡ packet → told_by_packet packet next ≡ Some t → CameIsSent w next t
packet_comes w i packet (next.Send brick) t there is = absurd (cc)
packet_comes w i packet next.Ended t there is = absurd (cc)
packet_comes w i None (next.Receive brick) t there is = absurd (cc)
packet_comes w i (Some p) (next.Receive brick) t there is = go (same_brick p.brick brick && not (is_request p.frame)) refl is
  where
    go : (b : Bool) → (same_brick p.brick brick && not (is_request p.frame)) ≡ b → (if b then Some (told.Came (Some p.frame)) else None) ≡ Some t → (frame : Frame) → t ≡ told.Came (Some frame) → WasSent w brick frame
    go false its e = absurd (cc)
    go true its e =
        λ frame came.
        let same : p.brick ≡ brick = brick_is p.brick brick (both _ _ its).0 in
        let first : told.Came (Some p.frame) ≡ told.Came (Some frame) = (let t_is : told.Came (Some p.frame) ≡ t = cc in t_is ∙ came) in
        let framed : p.frame ≡ frame = cc in
        (i, there ∙ (λ l. Some (record { brick = same l; frame = framed l })))

-- a packet that is sent, if one is
packet_stays : (since w : WorldValue) (k : ℕ) (c : Call) (is_sent : Bool) (next : StubNext) → slice_get w.calls k ≡ Some c → SendsTo c next → StaysSound since w (with_sent w (packet_by_send is_sent (ask_of c) next))
packet_stays since w k c true (next.Send brick) there to = request_stays since w brick k c there to
packet_stays since w k c false (next.Send brick) there to = stays_same since w
packet_stays since w k c is_sent (next.Receive brick) there to = stays_same since w
packet_stays since w k c is_sent next.Ended there to = stays_same since w

-- a call after it was told something, if it was
told_call : (w : WorldValue) (k : ℕ) (c : Call) (o : Option Told) → slice_get w.calls k ≡ Some c → (d : Call) × (slice_get (with_told w k c o).calls k ≡ Some d) × (ask_of d ≡ ask_of c) × (bricks_asked d ≡ bricks_asked c)
told_call w k c None there = (c, there, refl, refl)
told_call w k c (Some t) there = (hear c t, get_set_same w.calls k (hear c t) c there, same_ask c (hear c t) (hear_untold c t), same_bricks c (hear c t) (hear_untold c t))

sent_stays : (since w : WorldValue) (k : ℕ) (silent is_sent : Bool) (o : Option Call) → slice_get w.calls k ≡ o → StaysSound since w (sent w k silent is_sent o)
sent_stays since w k silent is_sent None there = stays_same since w
sent_stays since w k silent is_sent (Some c) there =
    let middle : WorldValue = with_told w k c (told_by_send silent (next_of c)) in
    let first : StaysSound since w middle = told_stays since w k c (told_by_send silent (next_of c)) there (send_comes w silent (next_of c)) in
    let now : (d : Call) × (slice_get middle.calls k ≡ Some d) × (ask_of d ≡ ask_of c) × (bricks_asked d ≡ bricks_asked c) = told_call w k c (told_by_send silent (next_of c)) there in
    let S : Frame → Type 0 = λ f. StaysSound since middle (with_sent middle (packet_by_send is_sent f (next_of c))) in
    stays_on since w middle (sent w k silent is_sent (Some c)) first (subst S now.2 (packet_stays since middle k now.0 is_sent (next_of c) now.1 (same_sends c now.0 (next_of c) now.3 (next_sends c))))

came_stays : (since w : WorldValue) (k i : ℕ) (packet : Option Packet) (o : Option Call) → slice_get w.packets i ≡ packet → slice_get w.calls k ≡ o → StaysSound since w (came w k packet o)
came_stays since w k i packet None at_packet there = stays_same since w
came_stays since w k i packet (Some c) at_packet there = told_stays since w k c (told_by_packet packet (next_of c)) there (λ t is. packet_comes w i packet (next_of c) t at_packet is)

hushed_stays : (since w : WorldValue) (k : ℕ) (o : Option Call) → slice_get w.calls k ≡ o → StaysSound since w (hushed w k o)
hushed_stays since w k None there = stays_same since w
hushed_stays since w k (Some c) there = told_stays since w k c (told_by_hush (next_of c)) there (hush_comes w (next_of c))

-- a packet that reaches its brick
replied_stays : (since w : WorldValue) (i : ℕ) (p : Packet) (h : List BrickEvent) (o : Option Frame) → slice_get w.packets i ≡ Some p → history w p.brick ≡ Some h → reply (brick_after p.brick h) p.frame ≡ o → StaysSound since w (replied w p h o)
replied_stays since w i p h None there now is = stays_same since w
replied_stays since w i p h (Some frame) there now is = delivery_stays since w i p h frame there now is

reached_stays : (since w : WorldValue) (i : ℕ) (p : Packet) (o : Option (List BrickEvent)) → slice_get w.packets i ≡ Some p → history w p.brick ≡ o → StaysSound since w (reached w p o)
reached_stays since w i p None there now = stays_same since w
reached_stays since w i p (Some h) there now = replied_stays since w i p h (reply (brick_after p.brick h) p.frame) there now refl

delivered_stays : (since w : WorldValue) (i : ℕ) (o : Option Packet) → slice_get w.packets i ≡ o → StaysSound since w (delivered w o)
delivered_stays since w i None there = stays_same since w
delivered_stays since w i (Some p) there = reached_stays since w i p (history w p.brick) there refl

-- a brick that crashes or is swept
crashes_stay : (since w : WorldValue) (brick : BrickNo) (h : List BrickEvent) (b : Bool) → history w brick ≡ Some h → StaysSound since w (if b then with_history w brick (happened.Crash ∷ h) else w)
crashes_stay since w brick h true now = history_stays since w brick (happened.Crash ∷ []) h now (λ s. s.stored brick h now)
crashes_stay since w brick h false now = stays_same since w

crashed_stays : (since w : WorldValue) (brick : BrickNo) (o : Option (List BrickEvent)) → history w brick ≡ o → StaysSound since w (crashed w brick o)
crashed_stays since w brick None now = stays_same since w
crashed_stays since w brick (Some h) now = crashes_stay since w brick h (nat_lt (incarnation_after 1 h) (2 ^ 64 - 1)) now

swept_stays : (since w : WorldValue) (brick : BrickNo) (moment : Moment) (o : Option (List BrickEvent)) → history w brick ≡ o → StaysSound since w (swept w brick moment o)
swept_stays since w brick moment None now = stays_same since w
swept_stays since w brick moment (Some h) now = history_stays since w brick (happened.Sweep moment ∷ []) h now (λ s. s.stored brick h now)

-- each event
pub step_stays : (since w : WorldValue) (e : WorldEvent) → StaysSound since w (step w e)
step_stays since w (Write nonce key value expiry bricks least) =
    begins_stay since w _ (may_write w nonce bricks least) (λ may. (both _ _ (both _ _ may).0).0)
    (λ may v. write_begins v bricks least nonce key value expiry (both _ _ (both _ _ may).0).1 (both _ _ may).1)
step_stays since w (Read nonce moment cookie) =
    begins_stay since w _ (may_read w nonce cookie.bricks) (λ may. (both _ _ may).0) (λ may v. read_begins v moment nonce cookie (both _ _ may).1)
step_stays since w (Send place silent is_sent) = sent_stays since w place silent (not silent || is_sent) (slice_get w.calls place) refl
step_stays since w (Deliver packet) = delivered_stays since w packet (slice_get w.packets packet) refl
step_stays since w (Hear place packet) = came_stays since w place packet (slice_get w.packets packet) (slice_get w.calls place) refl refl
step_stays since w (Hush place) = hushed_stays since w place (slice_get w.calls place) refl
step_stays since w (Crash brick) = crashed_stays since w brick (history w brick) refl
step_stays since w (Sweep brick moment) = swept_stays since w brick moment (history w brick) refl

-- all events
pub after_stays : (since w : WorldValue) (es : List WorldEvent) → StaysSound since w (after w es)
after_stays since w [] = stays_same since w
after_stays since w (e ∷ es) = stays_on since w (step w e) (after (step w e) es) (step_stays since w e) (after_stays since (step w e) es)

-- a world before any event is sound
none_there : (n : ℕ) (brick : ℕ) (h : List BrickEvent) → slice_get (replicate n []) brick ≡ Some h → h ≡ []
none_there zero brick h is = absurd (cc)
none_there (suc n) zero h is = cc
none_there (suc n) (suc brick) h is = none_there n brick h is

pub new_history : (n : ℕ) (brick : ℕ) (h : List BrickEvent) → history_at (replicate n []) brick ≡ Some h → h ≡ []
new_history n zero h is = absurd (cc)
new_history n (suc brick) h is = none_there n brick h is

new_is_sound : (n : ℕ) → IsSound (new_world n)
new_is_sound n = record {
  nonces = λ j k c d at_j at_k same. absurd (cc);
  requests = λ i p is asks. absurd (cc);
  stored = λ brick h is. (
      let P : List BrickEvent → Type 0 = λ x. AllStored (WasWritten (new_world n) brick) x in
      subst P (sym (new_history n brick.0 h is)) tt);
  calls = λ k c is. absurd (cc);
}

-- each world is sound, and from each world on replies are made since
pub world_is_sound : (n : ℕ) (es : List WorldEvent) → IsSound (after (new_world n) es)
world_is_sound n es = (after_stays (new_world n) (new_world n) es).sound (new_is_sound n)

pub replies_since : (w : WorldValue) (es : List WorldEvent) → IsSound w → RepliesSince w (after w es)
replies_since w es sound = (after_stays w w es).replies sound (grows_same w) (record {
  each = λ i p late is none. absurd (let within : i < length w.packets = slice_get_within w.packets i p is in omega arith);
})

pub world_replies : (n : ℕ) (es : List WorldEvent) → RepliesSince (new_world n) (after (new_world n) es)
world_replies n es = replies_since (new_world n) es (new_is_sound n)

-- a later world has grown from each earlier one
pub worlds_grow : (n : ℕ) (es later : List WorldEvent) → Grows (after (new_world n) es) (after (after (new_world n) es) later)
worlds_grow n es later = (after_stays (new_world n) (after (new_world n) es) later).grows

pub worlds_reply : (n : ℕ) (es later : List WorldEvent) → RepliesSince (after (new_world n) es) (after (after (new_world n) es) later)
worlds_reply n es later = replies_since (after (new_world n) es) later (world_is_sound n es)
