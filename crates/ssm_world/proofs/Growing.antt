-- Worlds that grow, and what stays true of them.
use Rattle.std.proofs.Common.{◌≡◌, inl, inr, ℕ, List, [], ◌∷◌, ◌++◌, Option, Some, refl, sym, ap, ◌∙◌, append_assoc}
use Rattle.std.specs.Prelude.{slice_get}
use Rattle.crash_base.specs.declared.numbers.BrickNo.{BrickNo}
use Rattle.ssm_frames.specs.declared.frame.Frame.{Frame}
use Rattle.brick_store.specs.declared.event.BrickEvent.{BrickEvent}
use Rattle.brick_store.specs.declared.event.BrickEvent.TheVariants.{Stored, Sweep, Crash}
use Rattle.brick_store.specs.Standing.{heard}
use Rattle.ssm_stub.specs.declared.ask.Ask.{Ask}
use Rattle.ssm_stub.specs.declared.reply.ReadReply.{ReadReply}
use Rattle.ssm_stub.specs.declared.reply.WriteReply.{WriteReply}
use Rattle.ssm_world.specs.declared.event.Packet.{Packet}
use Rattle.ssm_world.specs.declared.call.Call.{Call}
use Rattle.ssm_world.specs.declared.call.Call.TheVariants as call
use Rattle.ssm_world.specs.Facts.{AllStored}
use Rattle.ssm_world.specs.Worlds.{WorldValue, nonce_of, ask_of, history, with_history, with_packet, with_new_call, with_call, bricks_of}
use Rattle.ssm_world.specs.Sound.{asked_of, untold, WasSent, bricks_asked, Asks, WasAskedOf, Grows, WasMade, WasWritten, WereSent, CallIsSound}
use Rattle.ssm_world.proofs.Asks.{asked_none}
use Rattle.ssm_world.proofs.Lists.{get_front, set_keeps, history_keeps}

-- a call's nonce and its ask are those with which it began
untold_nonce : (c : Call) → nonce_of (untold c) ≡ nonce_of c
untold_nonce (call.Write s) = refl
untold_nonce (call.Read s) = refl

untold_ask : (c : Call) → ask_of (untold c) ≡ ask_of c
untold_ask (call.Write s) = refl
untold_ask (call.Read s) = refl

pub same_nonce : (c d : Call) → untold d ≡ untold c → nonce_of d ≡ nonce_of c
same_nonce c d same = sym (untold_nonce d) ∙ ap nonce_of same ∙ untold_nonce c

pub same_ask : (c d : Call) → untold d ≡ untold c → ask_of d ≡ ask_of c
same_ask c d same = sym (untold_ask d) ∙ ap ask_of same ∙ untold_ask c

-- and so are the bricks that it asks
untold_bricks : (c : Call) → bricks_asked (untold c) ≡ bricks_asked c
untold_bricks (call.Write s) = asked_none WriteReply (asked_of s.asks)
untold_bricks (call.Read s) = ap bricks_of (asked_none ReadReply (asked_of s.asks))

pub same_bricks : (c d : Call) → untold d ≡ untold c → bricks_asked d ≡ bricks_asked c
same_bricks c d same = sym (untold_bricks d) ∙ ap bricks_asked same ∙ untold_bricks c

pub grows_same : (w : WorldValue) → Grows w w
grows_same w = record {
  packets = λ i p is. is;
  calls = λ k c is. (c, is, refl);
  histories = λ brick h is. ([], is);
}

pub grows_on : (u v w : WorldValue) → Grows u v → Grows v w → Grows u w
grows_on u v w first second = record {
  packets = λ i p is. second.packets i p (first.packets i p is);
  calls = λ k c is.
      let middle : (d : Call) × (slice_get v.calls k ≡ Some d) × (untold d ≡ untold c) = first.calls k c is in
      let last : (e : Call) × (slice_get w.calls k ≡ Some e) × (untold e ≡ untold middle.0) = second.calls k middle.0 middle.1 in
      (last.0, last.1, last.2 ∙ middle.2);
  histories = λ brick h is.
      let middle : (newer : List BrickEvent) × (history v brick ≡ Some (newer ++ h)) = first.histories brick h is in
      let last : (newer : List BrickEvent) × (history w brick ≡ Some (newer ++ (middle.0 ++ h))) = second.histories brick (middle.0 ++ h) middle.1 in
      (last.0 ++ middle.0, last.1 ∙ ap (λ g. Some g) (sym (append_assoc last.0 middle.0 h)));
}

-- each change of a world makes it grow
pub grows_packet : (w : WorldValue) (p : Packet) → Grows w (with_packet w p)
grows_packet w p = record {
  packets = λ i q is. get_front w.packets (p ∷ []) i q is;
  calls = λ k c is. (c, is, refl);
  histories = λ brick h is. ([], is);
}

pub grows_new_call : (w : WorldValue) (c : Call) → Grows w (with_new_call w c)
grows_new_call w c = record {
  packets = λ i p is. is;
  calls = λ k d is. (d, get_front w.calls (c ∷ []) k d is, refl);
  histories = λ brick h is. ([], is);
}

pub grows_call : (w : WorldValue) (k : ℕ) (c d : Call) → slice_get w.calls k ≡ Some c → untold d ≡ untold c → Grows w (with_call w k d)
grows_call w k c d there same = record {
  packets = λ i p is. is;
  calls = λ j e is. elim (set_keeps w.calls k d j e is) [
    | inl kept ↦ (e, kept, refl)
    | inr changed ↦ (
        let one : Some c ≡ Some e = sym there ∙ ap (slice_get w.calls) (sym changed.0) ∙ is in
        let called : c ≡ e = cc in
        (d, changed.1, same ∙ ap untold called))
  ];
  histories = λ brick h is. ([], is);
}

pub grows_history : (w : WorldValue) (brick : BrickNo) (newer h : List BrickEvent) → history w brick ≡ Some h → Grows w (with_history w brick (newer ++ h))
grows_history w brick newer h there = record {
  packets = λ i p is. is;
  calls = λ k c is. (c, is, refl);
  histories = λ b g is. elim (history_keeps w.histories brick.0 (newer ++ h) b.0 g is) [
    | inl kept ↦ ([], kept)
    | inr changed ↦ (
        let number : b.0 ≡ brick.0 = changed.0 in
        let same : b ≡ brick = λ l. record { 0 = number l } in
        let one : Some h ≡ Some g = sym there ∙ ap (history w) (sym same) ∙ is in
        let list : h ≡ g = cc in
        (newer, changed.1 ∙ ap (λ x. Some (newer ++ x)) list))
  ];
}

-- this request is the ask of a call
abbrev pub WasAsked : WorldValue → Frame → Type 0
WasAsked w frame = (i : ℕ) × (c : Call) × (slice_get w.calls i ≡ Some c) × (ask_of c ≡ frame)

-- what is said of calls, of values and of replies stays
pub asked_stays : (w v : WorldValue) (frame : Frame) → Grows w v → WasAsked w frame → WasAsked v frame
asked_stays w v frame grows was =
    let now : (d : Call) × (slice_get v.calls was.0 ≡ Some d) × (untold d ≡ untold was.1) = grows.calls was.0 was.1 was.2 in
    (was.0, now.0, now.1, same_ask was.1 now.0 now.2 ∙ was.3)

-- an ask to a brick is the ask of its call
pub ask_of_call : (w : WorldValue) (brick : BrickNo) (frame : Frame) → WasAskedOf w brick frame → WasAsked w frame
ask_of_call w brick frame was = (was.0, was.1, was.2, was.3)

pub brick_asked_stays : (w v : WorldValue) (brick : BrickNo) (frame : Frame) → Grows w v → WasAskedOf w brick frame → WasAskedOf v brick frame
brick_asked_stays w v brick frame grows was =
    let now : (d : Call) × (slice_get v.calls was.0 ≡ Some d) × (untold d ≡ untold was.1) = grows.calls was.0 was.1 was.2 in
    let asks : Asks now.0 brick = (was.4.0, ap (λ bricks. slice_get bricks was.4.0) (same_bricks was.1 now.0 now.2) ∙ was.4.1) in
    (was.0, now.0, now.1, same_ask was.1 now.0 now.2 ∙ was.3, asks)

pub sent_stays : (w v : WorldValue) (brick : BrickNo) (frame : Frame) → Grows w v → WasSent w brick frame → WasSent v brick frame
sent_stays w v brick frame grows was = (was.0, grows.packets was.0 (record { brick = brick; frame = frame }) was.1)

pub stored_stays : (w v : WorldValue) (brick : BrickNo) (h : List BrickEvent) → Grows w v → AllStored (WasWritten w brick) h → AllStored (WasWritten v brick) h
stored_stays w v brick [] grows all = tt
stored_stays w v brick (Stored s ∷ h) grows all = (brick_asked_stays w v brick _ grows all.0, stored_stays w v brick h grows all.1)
stored_stays w v brick (Sweep moment ∷ h) grows all = stored_stays w v brick h grows all
stored_stays w v brick (Crash ∷ h) grows all = stored_stays w v brick h grows all

were_stay : {W A : Type 0} (w v : WorldValue) (brick_of : W → BrickNo) (lawful : W → Frame → Option A) (asks : List (Ask W A)) → Grows w v → WereSent w brick_of lawful asks → WereSent v brick_of lawful asks
were_stay w v brick_of lawful asks grows were =
    λ i ask reply there is.
    let was : (frame : Frame) × WasSent w (brick_of ask.who) frame × (lawful ask.who frame ≡ Some reply) = were i ask reply there is in
    (was.0, sent_stays w v (brick_of ask.who) was.0 grows was.1, was.2)

pub call_stays : (w v : WorldValue) (c : Call) → Grows w v → CallIsSound w c → CallIsSound v c
call_stays w v (call.Write s) grows sound = record {
  value = sound.value;
  ask_is = sound.ask_is;
  bricks = sound.bricks;
  some = sound.some;
  at_most_all = sound.at_most_all;
  replies = were_stay w v _ _ s.asks grows sound.replies;
}
call_stays w v (call.Read s) grows sound = record {
  bricks = sound.bricks;
  replies = were_stay w v _ _ s.asks grows sound.replies;
}

-- a reply was made at its moment also in a world that grew since
pub made_stays : (since w v : WorldValue) (p : Packet) → Grows w v → WasMade since w p → WasMade since v p
made_stays since w v p grows made =
    let now : (newer : List BrickEvent) × (history v p.brick ≡ Some (newer ++ (made.later ++ heard made.earlier made.request))) = grows.histories p.brick _ made.history_is in
    record {
      request = made.request;
      earlier = made.earlier;
      later = now.0 ++ made.later;
      asks = made.asks;
      was_sent = sent_stays w v p.brick made.request grows made.was_sent;
      history_is = now.1 ∙ ap (λ g. Some g) (sym (append_assoc now.0 made.later (heard made.earlier made.request)));
      since_then = made.since_then;
      reply_is = made.reply_is;
    }
