-- What calls of a sound world ask.
use Rattle.std.proofs.Common.{◌≡◌, ℕ, true, List, Some, refl, sym, ap, ◌∙◌}
use Rattle.std.specs.Prelude.{slice_get}
use Rattle.crash_base.specs.declared.numbers.Moment.{Moment}
use Rattle.crash_base.specs.declared.numbers.SessionKey.{SessionKey}
use Rattle.crash_base.specs.declared.numbers.Version.{Version}
use Rattle.ssm_frames.specs.declared.frame.Frame.{Frame}
use Rattle.ssm_frames.specs.declared.frame.Frame.TheVariants.{Put}
use Rattle.ssm_frames.specs.Requests.{is_request}
use Rattle.ssm_world.specs.declared.call.Call.{Call}
use Rattle.ssm_world.specs.declared.call.Call.TheVariants as call
use Rattle.ssm_world.specs.Facts.{frame_nonce}
use Rattle.ssm_world.specs.Worlds.{WorldValue, nonce_of, ask_of}
use Rattle.ssm_world.specs.Sound.{CallIsSound, IsSound}
use Rattle.ssm_world.proofs.Growing.{WasAsked}

pub ask_is_request : (w : WorldValue) (c : Call) → CallIsSound w c → is_request (ask_of c) ≡ true
ask_is_request w (call.Write s) sound = ap is_request sound.ask_is
ask_is_request w (call.Read s) sound = refl

pub ask_nonce : (w : WorldValue) (c : Call) → CallIsSound w c → frame_nonce (ask_of c) ≡ nonce_of c
ask_nonce w (call.Write s) sound = ap frame_nonce sound.ask_is
ask_nonce w (call.Read s) sound = refl

-- a call asks to keep its value under its nonce as version
put_ask : (w : WorldValue) (c : Call) (n : Version) (k : SessionKey) (v : Version) (d : Moment) (x : List ℕ) → CallIsSound w c → ask_of c ≡ Put n k v d x → n ≡ v
put_ask w (call.Write s) n k v d x sound is =
    let same : Put s.nonce s.key s.nonce s.expiry sound.value ≡ Put n k v d x = sym sound.ask_is ∙ is in
    let nonce : s.nonce ≡ n = cc in
    let version : s.nonce ≡ v = cc in
    sym nonce ∙ version
put_ask w (call.Read s) n k v d x sound is = absurd (cc)

pub put_asked : (w : WorldValue) (n : Version) (k : SessionKey) (v : Version) (d : Moment) (x : List ℕ) → IsSound w → WasAsked w (Put n k v d x) → n ≡ v
put_asked w n k v d x sound was = put_ask w was.1 n k v d x (sound.calls was.0 was.1 was.2) was.3

pub asked_nonce : (w : WorldValue) (frame : Frame) → IsSound w → (was : WasAsked w frame) → nonce_of was.1 ≡ frame_nonce frame
asked_nonce w frame sound was = sym (ask_nonce w was.1 (sound.calls was.0 was.1 was.2)) ∙ ap frame_nonce was.3

-- two asks with one nonce are one
pub one_ask : (w : WorldValue) (a b : Frame) → IsSound w → WasAsked w a → WasAsked w b → frame_nonce a ≡ frame_nonce b → a ≡ b
one_ask w a b sound was_a was_b same =
    let nonce : nonce_of was_a.1 ≡ nonce_of was_b.1 = asked_nonce w a sound was_a ∙ same ∙ sym (asked_nonce w b sound was_b) in
    let place : was_a.0 ≡ was_b.0 = sound.nonces was_a.0 was_b.0 was_a.1 was_b.1 was_a.2 was_b.2 nonce in
    let one : Some was_a.1 ≡ Some was_b.1 = sym was_a.2 ∙ ap (slice_get w.calls) place ∙ was_b.2 in
    let called : was_a.1 ≡ was_b.1 = cc in
    sym was_a.3 ∙ ap ask_of called ∙ was_b.3
