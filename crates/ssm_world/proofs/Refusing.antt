-- An event that may not happen changes nothing.
use Rattle.std.proofs.Common.{◌≡◌, ◌||◌, Bool, true, false, not, if◌then◌else◌, List, Option, Some, None, refl, ap, ℕ}
use Rattle.std.specs.Prelude.{◌∷◌, slice_get, is_some}
use Rattle.std.specs.Option.{option_and_then}
use Rattle.ssm_frames.specs.declared.frame.Frame.{Frame}
use Rattle.crash_base.specs.declared.numbers.BrickNo.{BrickNo}
use Rattle.crash_base.specs.declared.numbers.Moment.{Moment}
use Rattle.brick_store.specs.declared.event.BrickEvent.{BrickEvent}
use Rattle.brick_store.specs.declared.event.BrickEvent.TheVariants as happened
use Rattle.brick_store.specs.Bricks.{reply}
use Rattle.ssm_stub.specs.declared.event.Told.{Told}
use Rattle.ssm_stub.specs.declared.event.StubNext.{StubNext}
use Rattle.ssm_stub.specs.declared.event.StubNext.TheVariants as next
use Rattle.ssm_world.specs.declared.call.Call.{Call}
use Rattle.ssm_world.specs.declared.event.Packet.{Packet}
use Rattle.ssm_world.specs.declared.event.WorldEvent.{WorldEvent}
use Rattle.ssm_world.specs.declared.event.WorldEvent.TheVariants.{Write, Read, Send, Deliver, Hear, Hush, Crash, Sweep}
use Rattle.ssm_world.specs.Worlds.{WorldValue, ask_of, next_of, history, with_history, with_new_call, with_sent, with_told, may_write, may_read, told_by_send, told_by_hush, told_by_packet, packet_by_send, told_if, sent, came, hushed, brick_after, reply_to, replied, reached, delivered, may_crash, crashed, swept, may_happen, step}

not_begun : (w : WorldValue) (c : Call) (may : Bool) → may ≡ false → (if may then with_new_call w c else w) ≡ w
not_begun w c true is = absurd (cc)
not_begun w c false is = refl

not_told : (w : WorldValue) (place : ℕ) (c : Call) (o : Option Told) → is_some o ≡ false → with_told w place c o ≡ w
not_told w place c None is = refl
not_told w place c (Some told) is = absurd (cc)

not_sent : (w : WorldValue) (place : ℕ) (silent is_sent : Bool) (o : Option Call) → is_some (told_if (told_by_send silent) o) ≡ false → sent w place silent is_sent o ≡ w
not_sent w place silent is_sent None is = refl
not_sent w place silent is_sent (Some c) is = go (next_of c) is
  where
    go : (n : StubNext) → is_some (told_by_send silent n) ≡ false → with_sent (with_told w place c (told_by_send silent n)) (packet_by_send is_sent (ask_of c) n) ≡ w
    go (next.Send brick) none = absurd (cc)
    go (next.Receive brick) none = refl
    go next.Ended none = refl

not_come : (w : WorldValue) (place : ℕ) (packet : Option Packet) (o : Option Call) → is_some (told_if (told_by_packet packet) o) ≡ false → came w place packet o ≡ w
not_come w place packet None is = refl
not_come w place packet (Some c) is = not_told w place c (told_by_packet packet (next_of c)) is

not_hushed : (w : WorldValue) (place : ℕ) (o : Option Call) → is_some (told_if told_by_hush o) ≡ false → hushed w place o ≡ w
not_hushed w place None is = refl
not_hushed w place (Some c) is = not_told w place c (told_by_hush (next_of c)) is

not_replied : (w : WorldValue) (p : Packet) (h : List BrickEvent) (o : Option Frame) → is_some o ≡ false → replied w p h o ≡ w
not_replied w p h None is = refl
not_replied w p h (Some frame) is = absurd (cc)

not_reached : (w : WorldValue) (p : Packet) (o : Option (List BrickEvent)) → is_some (reply_to p o) ≡ false → reached w p o ≡ w
not_reached w p None is = refl
not_reached w p (Some h) is = not_replied w p h (reply (brick_after p.brick h) p.frame) is

not_crashed : (w : WorldValue) (brick : BrickNo) (o : Option (List BrickEvent)) → may_crash o ≡ false → crashed w brick o ≡ w
not_crashed w brick None is = refl
not_crashed w brick (Some h) is = ap (λ b. if b then with_history w brick (happened.Crash ∷ h) else w) is

not_swept : (w : WorldValue) (brick : BrickNo) (moment : Moment) (o : Option (List BrickEvent)) → is_some o ≡ false → swept w brick moment o ≡ w
not_swept w brick moment None is = refl
not_swept w brick moment (Some h) is = absurd (cc)

pub refused : (w : WorldValue) (e : WorldEvent) → may_happen w e ≡ false → step w e ≡ w
refused w (Write nonce key value expiry bricks least) is = not_begun w _ (may_write w nonce bricks least) is
refused w (Read nonce moment cookie) is = not_begun w _ (may_read w nonce cookie.bricks) is
refused w (Send place silent is_sent) is = not_sent w place silent (not silent || is_sent) (slice_get w.calls place) is
refused w (Deliver packet) is = go (slice_get w.packets packet) is
  where
    go : (o : Option Packet) → is_some (option_and_then (λ (p : Packet). reply_to p (history w p.brick)) o) ≡ false → delivered w o ≡ w
    go None none = refl
    go (Some p) none = not_reached w p (history w p.brick) none
refused w (Hear place packet) is = not_come w place (slice_get w.packets packet) (slice_get w.calls place) is
refused w (Hush place) is = not_hushed w place (slice_get w.calls place) is
refused w (Crash brick) is = not_crashed w brick (history w brick) is
refused w (Sweep brick moment) is = not_swept w brick moment (history w brick) is
