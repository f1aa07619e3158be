-- An event that may happen changes the world.
use Rattle.std.proofs.Common.{◌≡◌, ℕ, suc, ◌+◌, ◌-◌, ◌||◌, Bool, true, false, not, IsTrue, if◌then◌else◌, nat_lt, List, [], ◌∷◌, ◌++◌, length, length-append, Option, Some, None, refl, sym, ap, ◌∙◌, arith}
use Rattle.std.specs.Prelude.{slice_get, is_some}
use Rattle.std.specs.Option.{option_and_then}
use Rattle.crash_base.specs.declared.numbers.BrickNo.{BrickNo}
use Rattle.crash_base.specs.declared.numbers.Moment.{Moment}
use Rattle.session_cookie.specs.declared.cookie.Holder.{Holder}
use Rattle.ssm_frames.specs.declared.frame.Frame.{Frame}
use Rattle.brick_store.specs.declared.event.BrickEvent.{BrickEvent}
use Rattle.brick_store.specs.declared.event.BrickEvent.TheVariants as happened
use Rattle.brick_store.specs.Bricks.{reply}
use Rattle.ssm_stub.specs.declared.ask.Ask.{Ask}
use Rattle.ssm_stub.specs.declared.ask.Turn.{Turn}
use Rattle.ssm_stub.specs.declared.ear.Stage.{Stage}
use Rattle.ssm_stub.specs.declared.ear.Stage.TheVariants.{Unasked, Asked}
use Rattle.ssm_stub.specs.declared.ear.TheConstants.{MAX_STRAYS}
use Rattle.ssm_stub.specs.declared.ear.Outcome.TheVariants.{Strayed}
use Rattle.ssm_stub.specs.declared.ear.Ear.{Ear}
use Rattle.ssm_stub.specs.declared.ear.Ear.TheVariants.{Open, Heard}
use Rattle.ssm_stub.specs.declared.event.Told.{Told}
use Rattle.ssm_stub.specs.declared.event.Told.TheVariants.{Sent, Came, Silent as NoneCame}
use Rattle.ssm_stub.specs.Ears.{after_frame, heard}
use Rattle.ssm_stub.specs.Runs.{fits}
use Rattle.ssm_stub.specs.Turns.{asks_after, turn_after_asks, wanted, wanted_of}
use Rattle.ssm_stub.specs.Writes.{put_lawful, hear_write}
use Rattle.ssm_stub.specs.Reads.{get_lawful, turn_of_read, hear_read}
use Rattle.ssm_stub.proofs.Places.{turn_after_asks-stands, turn_of_read-stands, with_ear-there}
use Rattle.ssm_world.specs.declared.call.Call.{Call}
use Rattle.ssm_world.specs.declared.call.Call.TheVariants as call
use Rattle.ssm_world.specs.declared.event.Packet.{Packet}
use Rattle.ssm_world.specs.declared.event.WorldEvent.{WorldEvent}
use Rattle.ssm_world.specs.declared.event.WorldEvent.TheVariants.{Write, Read, Send, Deliver, Hear, Hush, Crash, Sweep}
use Rattle.ssm_world.specs.Worlds.{WorldValue, ask_of, next_of, hear, history, with_history, with_new_call, with_told, may_write, may_read, told_by_send, told_by_hush, told_by_packet, packet_by_send, told_if, sent, came, hushed, brick_after, reply_to, replied, reached, delivered, may_crash, crashed, swept, may_happen, step}
use Rattle.ssm_world.proofs.Lists.{get_set_same, history_set_same}
use Rattle.ssm_world.proofs.Tracing.{sent_calls, send_fits, hush_fits, packet_fits}

-- one that was told what could come of it has heard something new
ear_changes : {A : Type 0} (lawful : Frame → Option A) (stage : Stage) (told : Told) (brick : BrickNo) → IsTrue (fits (wanted_of brick stage) told) → heard lawful stage told ≡ Open stage → ⊥
ear_changes lawful Unasked Sent brick fit same = cc
ear_changes lawful Unasked (Came frame) brick fit same = cc
ear_changes lawful stage NoneCame brick fit same = cc
ear_changes lawful (Asked n) Sent brick fit same = cc
ear_changes {A} lawful (Asked n) (Came frame) brick fit same = go (option_and_then lawful frame) same
  where
    stray : (b : Bool) (ear : Ear A) → ear ≡ (if b then Open (Asked (n + 1)) else Heard Strayed) → ear ≡ Open (Asked n) → ⊥
    stray true ear is e = let more : n + 1 ≡ n = cc in omega (arith, more)
    stray false ear is e = cc

    go : (o : Option A) → after_frame (Asked n) o ≡ Open (Asked n) → ⊥
    go None e = stray (nat_lt n (MAX_STRAYS - 1)) (after_frame (Asked n) None) refl e
    go (Some answer) e = cc

asks_change : {W A : Type 0} (brick_of : W → BrickNo) (lawful : W → Frame → Option A) (told : Told) (asks : List (Ask W A)) (t : Turn W) → slice_get asks t.at ≡ Some (record { who = t.who; ear = Open t.stage })
    → IsTrue (fits (wanted_of (brick_of t.who) t.stage) told) → asks_after lawful told asks (Some t) ≡ asks → ⊥
asks_change {W} {A} brick_of lawful told asks t there fit same =
    let ear : Ear A = heard (lawful t.who) t.stage told in
    let new : slice_get (asks_after lawful told asks (Some t)) t.at ≡ Some (record { who = t.who; ear = ear }) =
    ap (λ l. slice_get l t.at) (with_ear-there asks t.at ear (record { who = t.who; ear = Open t.stage }) there) ∙ get_set_same asks t.at (record { who = t.who; ear = ear }) _ there in
    let both : Some (record { who = t.who; ear = ear }) ≡ Some (record { who = t.who; ear = Open t.stage }) = sym new ∙ ap (λ l. slice_get l t.at) same ∙ there in
    let whole : record { who = t.who; ear = ear } ≡ record { who = t.who; ear = Open t.stage } = cc in
    ear_changes (lawful t.who) t.stage told (brick_of t.who) fit (ap (λ (a : Ask W A). a.ear) whole)

call_changes : (c : Call) (told : Told) → IsTrue (fits (next_of c) told) → hear c told ≡ c → ⊥
call_changes (call.Write s) told fit same =
    let states : hear_write s told ≡ s = cc in
    go (turn_after_asks s.asks) refl fit (ap (λ t. t.asks) states)
  where
    go : (turn : Option (Turn BrickNo)) → turn_after_asks s.asks ≡ turn → IsTrue (fits (wanted (λ (b : BrickNo). b) turn) told) → asks_after (put_lawful s.nonce s.key) told s.asks turn ≡ s.asks → ⊥
    go None now fit same = cc
    go (Some t) now fit same = asks_change (λ (b : BrickNo). b) (put_lawful s.nonce s.key) told s.asks t (turn_after_asks-stands s.asks t now) fit same
call_changes (call.Read s) told fit same =
    let states : hear_read s told ≡ s = cc in
    go (turn_of_read s) refl fit (ap (λ t. t.asks) states)
  where
    go : (turn : Option (Turn Holder)) → turn_of_read s ≡ turn → IsTrue (fits (wanted (λ (h : Holder). h.brick) turn) told) → asks_after (get_lawful s.nonce s.key s.version s.expiry) told s.asks turn ≡ s.asks → ⊥
    go None now fit same = cc
    go (Some t) now fit same = asks_change (λ (h : Holder). h.brick) (get_lawful s.nonce s.key s.version s.expiry) told s.asks t (turn_of_read-stands s t now) fit same

longer : {A : Type 0} (xs : List A) (x : A) → xs ++ x ∷ [] ≡ xs → ⊥
longer xs x same =
    let more : length xs + 1 ≡ length xs = sym (length-append xs (x ∷ [])) ∙ ap length same in
    omega (arith, more)

older : {A : Type 0} (x : A) (xs : List A) → x ∷ xs ≡ xs → ⊥
older x xs same =
    let more : suc (length xs) ≡ length xs = ap length same in
    omega (arith, more)

begins : (w : WorldValue) (c : Call) (may : Bool) → may ≡ true → (if may then with_new_call w c else w) ≡ w → ⊥
begins w c false is same = cc
begins w c true is same = longer w.calls c (ap (λ (u : WorldValue). u.calls) same)

-- a call that is told what comes of what it wants
told_changes : (w : WorldValue) (place : ℕ) (c : Call) (o : Option Told) → slice_get w.calls place ≡ Some c → ((t : Told) → o ≡ Some t → IsTrue (fits (next_of c) t)) → is_some o ≡ true → (with_told w place c o).calls ≡ w.calls → ⊥
told_changes w place c None there fit some same = cc
told_changes w place c (Some t) there fit some same =
    let one : Some (hear c t) ≡ Some c = sym (get_set_same w.calls place (hear c t) c there) ∙ ap (λ cs. slice_get cs place) same ∙ there in
    call_changes c t (fit t refl) (cc)

sends : (w : WorldValue) (place : ℕ) (silent is_sent : Bool) (o : Option Call) → slice_get w.calls place ≡ o → is_some (told_if (told_by_send silent) o) ≡ true → sent w place silent is_sent o ≡ w → ⊥
sends w place silent is_sent None there some same = cc
sends w place silent is_sent (Some c) there some same =
    told_changes w place c (told_by_send silent (next_of c)) there (send_fits silent (next_of c)) some
    (sym (sent_calls (with_told w place c (told_by_send silent (next_of c))) (packet_by_send is_sent (ask_of c) (next_of c))) ∙ ap (λ (u : WorldValue). u.calls) same)

comes : (w : WorldValue) (place : ℕ) (packet : Option Packet) (o : Option Call) → slice_get w.calls place ≡ o → is_some (told_if (told_by_packet packet) o) ≡ true → came w place packet o ≡ w → ⊥
comes w place packet None there some same = cc
comes w place packet (Some c) there some same = told_changes w place c (told_by_packet packet (next_of c)) there (packet_fits packet (next_of c)) some (ap (λ (u : WorldValue). u.calls) same)

hushes : (w : WorldValue) (place : ℕ) (o : Option Call) → slice_get w.calls place ≡ o → is_some (told_if told_by_hush o) ≡ true → hushed w place o ≡ w → ⊥
hushes w place None there some same = cc
hushes w place (Some c) there some same = told_changes w place c (told_by_hush (next_of c)) there (hush_fits (next_of c)) some (ap (λ (u : WorldValue). u.calls) same)

replies : (w : WorldValue) (p : Packet) (h : List BrickEvent) (o : Option Frame) → is_some o ≡ true → replied w p h o ≡ w → ⊥
replies w p h None some same = cc
replies w p h (Some frame) some same = longer w.packets (record { brick = p.brick; frame = frame }) (ap (λ (u : WorldValue). u.packets) same)

reaches : (w : WorldValue) (p : Packet) (o : Option (List BrickEvent)) → is_some (reply_to p o) ≡ true → reached w p o ≡ w → ⊥
reaches w p None some same = cc
reaches w p (Some h) some same = replies w p h (reply (brick_after p.brick h) p.frame) some same

delivers : (w : WorldValue) (o : Option Packet) → is_some (option_and_then (λ (p : Packet). reply_to p (history w p.brick)) o) ≡ true → delivered w o ≡ w → ⊥
delivers w None some same = cc
delivers w (Some p) some same = reaches w p (history w p.brick) some same

-- a brick that goes on
goes_on : (w : WorldValue) (brick : BrickNo) (event : BrickEvent) (h : List BrickEvent) → history w brick ≡ Some h → with_history w brick (event ∷ h) ≡ w → ⊥
goes_on w brick event h now same =
    let one : Some (event ∷ h) ≡ Some h = sym (history_set_same w.histories brick.0 (event ∷ h) h now) ∙ ap (λ (u : WorldValue). history u brick) same ∙ now in
    older event h (cc)

crashes : (w : WorldValue) (brick : BrickNo) (o : Option (List BrickEvent)) → history w brick ≡ o → may_crash o ≡ true → crashed w brick o ≡ w → ⊥
crashes w brick None now may same = cc
crashes w brick (Some h) now may same = goes_on w brick happened.Crash h now (sym (ap (λ b. if b then with_history w brick (happened.Crash ∷ h) else w) may) ∙ same)

sweeps : (w : WorldValue) (brick : BrickNo) (moment : Moment) (o : Option (List BrickEvent)) → history w brick ≡ o → is_some o ≡ true → swept w brick moment o ≡ w → ⊥
sweeps w brick moment None now some same = cc
sweeps w brick moment (Some h) now some same = goes_on w brick (happened.Sweep moment) h now same

pub changes : (w : WorldValue) (e : WorldEvent) → may_happen w e ≡ true → step w e ≡ w → ⊥
changes w (Write nonce key value expiry bricks least) may same = begins w _ (may_write w nonce bricks least) may same
changes w (Read nonce moment cookie) may same = begins w _ (may_read w nonce cookie.bricks) may same
changes w (Send place silent is_sent) may same = sends w place silent (not silent || is_sent) (slice_get w.calls place) refl may same
changes w (Deliver packet) may same = delivers w (slice_get w.packets packet) may same
changes w (Hear place packet) may same = comes w place (slice_get w.packets packet) (slice_get w.calls place) refl may same
changes w (Hush place) may same = hushes w place (slice_get w.calls place) refl may same
changes w (Crash brick) may same = crashes w brick (history w brick) refl may same
changes w (Sweep brick moment) may same = sweeps w brick moment (history w brick) refl may same
