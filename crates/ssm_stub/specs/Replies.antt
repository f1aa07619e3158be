-- Which frames are lawful replies to a call.
use Rattle.std.specs.Prelude.{ℕ, ◌+◌, ◌==◌, ◌&&◌, nat_lt, Bool, if◌then◌else◌, Option, Some, None}
use Rattle.crash_base.specs.declared.numbers.BrickNo.{BrickNo}
use Rattle.crash_base.specs.declared.numbers.Moment.{Moment}
use Rattle.crash_base.specs.declared.numbers.SessionKey.{SessionKey}
use Rattle.crash_base.specs.declared.numbers.Version.{Version}
use Rattle.crash_base.specs.Same.{same_key, same_version}
use Rattle.session_cookie.specs.declared.cookie.Holder.{Holder}
use Rattle.ssm_frames.specs.declared.frame.Frame.{Frame}
use Rattle.ssm_frames.specs.declared.frame.Frame.TheVariants.{Put, Get, Sweep, Stored, Found, Absent, BrickFull, Swept}
use Rattle.ssm_frames.specs.declared.frame.TheConstants.{SWEEP_GRACE}
use Rattle.ssm_stub.specs.declared.reply.Reference.{Reference}
use Rattle.ssm_stub.specs.declared.reply.WriteReply.{WriteReply}
use Rattle.ssm_stub.specs.declared.reply.WriteReply.TheVariants as put
use Rattle.ssm_stub.specs.declared.reply.ReadReply.{ReadReply}
use Rattle.ssm_stub.specs.declared.reply.ReadReply.TheVariants as get

-- a frame that refers to this is a reply where that is wanted: nonce, key, version and brick are the same
abbrev pub is_reply : Reference → Reference → Bool
is_reply wanted to =
    same_version to.nonce wanted.nonce
    && (same_key to.key wanted.key
    && (same_version to.version wanted.version && (to.brick.0 == wanted.brick.0)))

-- what a frame with these fields refers to
abbrev pub refers : Version → SessionKey → Version → BrickNo → Reference
refers nonce key version brick =
    record { nonce = nonce; key = key; version = version; brick = brick }

-- The lawful reply to a Put that a frame is, if it is one: Stored or BrickFull, where it refers to what
-- is wanted.
abbrev pub lawful_put : Reference → Frame → Option WriteReply
lawful_put wanted (Put nonce key version expiry value) = None
lawful_put wanted (Get nonce key version) = None
lawful_put wanted (Sweep nonce moment) = None
lawful_put wanted (Stored nonce key version brick incarnation) =
    if is_reply wanted (refers nonce key version brick) then Some (put.Stored incarnation) else None
lawful_put wanted (Found nonce key version brick incarnation expiry value) = None
lawful_put wanted (Absent nonce key version brick incarnation swept) = None
lawful_put wanted (BrickFull nonce key version brick incarnation entries bytes) =
    if is_reply wanted (refers nonce key version brick) then Some (put.Full entries bytes) else None
lawful_put wanted (Swept nonce brick incarnation moment) = None

-- What it tells of a holder that a value is absent: that the brick crashed, where it has another
-- incarnation than the holder; else that it was swept past the lease, where the moment is greater than
-- the expiry and the grace of 60,000; and else nothing.
abbrev pub absence : Holder → Moment → ℕ → Moment → Option ReadReply
absence holder expiry incarnation swept =
    if incarnation == holder.incarnation
    then (if nat_lt (expiry.0 + SWEEP_GRACE) swept.0 then Some (get.Swept swept) else None)
    else Some (get.Crashed incarnation)

-- The lawful reply to a Get that a frame is, if it is one: Found, or Absent where that tells something
-- of the holder, and where it refers to what is wanted.
abbrev pub lawful_get : Reference → Holder → Moment → Frame → Option ReadReply
lawful_get wanted holder expiry (Put nonce key version until value) = None
lawful_get wanted holder expiry (Get nonce key version) = None
lawful_get wanted holder expiry (Sweep nonce moment) = None
lawful_get wanted holder expiry (Stored nonce key version brick incarnation) = None
lawful_get wanted holder expiry (Found nonce key version brick incarnation until value) =
    if is_reply wanted (refers nonce key version brick) then Some (get.Found value) else None
lawful_get wanted holder expiry (Absent nonce key version brick incarnation swept) =
    if is_reply wanted (refers nonce key version brick) then absence holder expiry incarnation swept else None
lawful_get wanted holder expiry (BrickFull nonce key version brick incarnation entries bytes) = None
lawful_get wanted holder expiry (Swept nonce brick incarnation moment) = None
