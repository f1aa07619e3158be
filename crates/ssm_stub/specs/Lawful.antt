-- What a lawful reply to a call is.
use Rattle.std.specs.Prelude.{◌≡◌, ◌≢◌, ℕ, ◌+◌, ◌<◌}
use Rattle.crash_base.specs.declared.numbers.BrickNo.{BrickNo}
use Rattle.crash_base.specs.declared.numbers.Moment.{Moment}
use Rattle.crash_base.specs.declared.numbers.SessionKey.{SessionKey}
use Rattle.crash_base.specs.declared.numbers.Version.{Version}
use Rattle.session_cookie.specs.declared.cookie.Holder.{Holder}
use Rattle.ssm_frames.specs.declared.frame.Frame.{Frame}
use Rattle.ssm_frames.specs.declared.frame.Frame.TheVariants.{Stored, Found, Absent, BrickFull}
use Rattle.ssm_frames.specs.declared.frame.TheConstants.{SWEEP_GRACE}
use Rattle.ssm_stub.specs.declared.reply.WriteReply.{WriteReply}
use Rattle.ssm_stub.specs.declared.reply.WriteReply.TheVariants as put
use Rattle.ssm_stub.specs.declared.reply.ReadReply.{ReadReply}
use Rattle.ssm_stub.specs.declared.reply.ReadReply.TheVariants as get

-- The frame is this reply of the brick to the Put of this nonce and key: Stored or BrickFull, with the
-- nonce, the key, the nonce as version and the brick.
abbrev pub IsPutReply : Version → SessionKey → BrickNo → Frame → WriteReply → Type 0
IsPutReply nonce key brick frame (put.Stored incarnation) =
    frame ≡ Stored nonce key nonce brick incarnation
IsPutReply nonce key brick frame (put.Full entries bytes) =
    (incarnation : ℕ) × (frame ≡ BrickFull nonce key nonce brick incarnation entries bytes)

-- The frame is this reply of the holder to the Get of this nonce, key and version: Found with these and the
-- holder's brick; or Absent with these, from another incarnation than the holder's, which crashed; or from
-- this one, swept past the expiry and the grace.
abbrev pub IsGetReply : Version → SessionKey → Version → Moment → Holder → Frame → ReadReply → Type 0
IsGetReply nonce key version expiry holder frame (get.Found value) =
    (incarnation : ℕ) × (until : Moment) × (frame ≡ Found nonce key version holder.brick incarnation until value)
IsGetReply nonce key version expiry holder frame (get.Crashed incarnation) =
    (swept : Moment) × (frame ≡ Absent nonce key version holder.brick incarnation swept) × (incarnation ≢ holder.incarnation)
IsGetReply nonce key version expiry holder frame (get.Swept swept) =
    (frame ≡ Absent nonce key version holder.brick holder.incarnation swept) × (expiry.0 + SWEEP_GRACE < swept.0)
