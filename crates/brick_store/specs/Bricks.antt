-- What a brick is, and what its calls do.
use Rattle.std.specs.Prelude.{ℕ, ◌+◌, Bool, false, not, is_some, if◌then◌else◌, List, [], length, filter, Option, Some, None}
use Rattle.crash_base.specs.declared.numbers.BrickNo.{BrickNo}
use Rattle.crash_base.specs.declared.numbers.Moment.{Moment}
use Rattle.crash_base.specs.declared.numbers.SessionKey.{SessionKey}
use Rattle.crash_base.specs.declared.numbers.Version.{Version}
use Rattle.ssm_frames.specs.declared.frame.Frame.{Frame}
use Rattle.ssm_frames.specs.declared.frame.Frame.TheVariants.{Put, Get, Sweep, Stored, Found, Absent, BrickFull, Swept}
use Rattle.brick_store.specs.declared.kept.Kept.{Kept}
use Rattle.brick_store.specs.History.{later}
use Rattle.brick_store.specs.Kept.{with_kept, kept_under, bytes_of, is_full, outlives}

-- A brick: what it keeps, in order of key and version, and the greatest moment that it was swept at
-- since it last crashed, or 0.
pub record BrickValue : Type 0 where
  pub number : BrickNo
  pub incarnation : ℕ
  pub swept : Moment
  pub kept : List Kept

-- a brick that keeps nothing
abbrev pub new_brick : BrickNo → ℕ → BrickValue
new_brick number first =
    record { number = number; incarnation = first; swept = record { 0 = 0 }; kept = [] }

-- what a Put asks to keep
abbrev pub put_value : SessionKey → Version → Moment → List ℕ → Kept
put_value key version expiry value =
    record { key = key; version = version; expiry = expiry; value = value }

-- A brick after a value was to be kept: as it was, where it has no room.
abbrev pub stored : BrickValue → Kept → BrickValue
stored b s = if is_full b.kept s then b else record b { kept = with_kept s b.kept }

-- A brick after a sweep.
abbrev pub swept_at : BrickValue → Moment → BrickValue
swept_at b moment =
    record b { swept = later b.swept moment; kept = filter (outlives moment) b.kept }

-- A brick after a crash.
abbrev pub crashed : BrickValue → BrickValue
crashed b =
    record b { incarnation = b.incarnation + 1; swept = record { 0 = 0 }; kept = [] }

-- A brick after a request. A reply changes nothing.
abbrev pub answered : BrickValue → Frame → BrickValue
answered b (Put nonce key version expiry value) = stored b (put_value key version expiry value)
answered b (Get nonce key version) = b
answered b (Sweep nonce moment) = swept_at b moment
answered b (Stored nonce key version brick incarnation) = b
answered b (Found nonce key version brick incarnation expiry value) = b
answered b (Absent nonce key version brick incarnation swept) = b
answered b (BrickFull nonce key version brick incarnation entries bytes) = b
answered b (Swept nonce brick incarnation moment) = b

-- the reply to a Put
abbrev pub put_reply : BrickValue → Version → Kept → Frame
put_reply b nonce s =
    if is_full b.kept s
    then BrickFull nonce s.key s.version b.number b.incarnation (length b.kept) (bytes_of b.kept)
    else Stored nonce s.key s.version b.number b.incarnation

-- the reply to a Get of a brick with this number, incarnation and moment swept, where this is kept
abbrev pub get_reply : BrickNo → ℕ → Moment → Version → SessionKey → Version → Option Kept → Frame
get_reply number incarnation swept nonce key version None =
    Absent nonce key version number incarnation swept
get_reply number incarnation swept nonce key version (Some s) =
    Found nonce key version number incarnation s.expiry s.value

-- A brick's reply to a request; None to a reply.
abbrev pub reply : BrickValue → Frame → Option Frame
reply b (Put nonce key version expiry value) =
    Some (put_reply b nonce (put_value key version expiry value))
reply b (Get nonce key version) =
    Some
    (get_reply b.number b.incarnation b.swept nonce key version (kept_under key version b.kept))
reply b (Sweep nonce moment) = Some (Swept nonce b.number b.incarnation moment)
reply b (Stored nonce key version brick incarnation) = None
reply b (Found nonce key version brick incarnation expiry value) = None
reply b (Absent nonce key version brick incarnation swept) = None
reply b (BrickFull nonce key version brick incarnation entries bytes) = None
reply b (Swept nonce brick incarnation moment) = None

-- whether a reply to a request takes memory: where a value is stored or found
abbrev pub takes_memory : BrickValue → Frame → Bool
takes_memory b (Put nonce key version expiry value) =
    not (is_full b.kept (put_value key version expiry value))
takes_memory b (Get nonce key version) = is_some (kept_under key version b.kept)
takes_memory b (Sweep nonce moment) = false
takes_memory b (Stored nonce key version brick incarnation) = false
takes_memory b (Found nonce key version brick incarnation expiry value) = false
takes_memory b (Absent nonce key version brick incarnation swept) = false
takes_memory b (BrickFull nonce key version brick incarnation entries bytes) = false
takes_memory b (Swept nonce brick incarnation moment) = false
