-- What spells a frame: a first byte, and then its fields, whose numbers are big-endian.
use Rattle.std.specs.Prelude.{◌≡◌, ℕ, ◌^◌, ◌<◌, ◌≤◌, List, ◌∷◌, ◌++◌, length}
use Rattle.crash_base.specs.declared.bounded.TheConstants.{MAX_SESSION_BYTES}
use Rattle.crash_base.specs.declared.numbers.BrickNo.{BrickNo}
use Rattle.crash_base.specs.declared.numbers.Moment.{Moment}
use Rattle.crash_base.specs.declared.numbers.SessionKey.{SessionKey}
use Rattle.crash_base.specs.declared.numbers.Version.{Version}
use Rattle.byte_fields.specs.Spelling.{AreBytes, u16_bytes, u32_bytes, u64_bytes}
use Rattle.ssm_frames.specs.declared.frame.Frame.{Frame}
use Rattle.ssm_frames.specs.declared.frame.Frame.TheVariants.{Put, Get, Sweep, Stored, Found, Absent, BrickFull, Swept}

-- a version: its node, boot and serial
unfoldable pub version_bytes : Version → List ℕ
version_bytes v =
    u16_bytes v.node ++ (u32_bytes v.boot ++ u64_bytes v.serial)

-- which value a frame is about, and of which call it is
unfoldable pub subject_bytes : Version → SessionKey → Version → List ℕ
subject_bytes nonce key version = version_bytes nonce ++ (key.0 ++ version_bytes version)

-- which brick replies
unfoldable pub sender_bytes : BrickNo → ℕ → List ℕ
sender_bytes brick incarnation = u16_bytes brick.0 ++ u64_bytes incarnation

-- a moment
unfoldable pub moment_bytes : Moment → List ℕ
moment_bytes moment = u64_bytes moment.0

-- a value: its length in two bytes, and then its bytes
unfoldable pub value_bytes : List ℕ → List ℕ
value_bytes value = u16_bytes (length value) ++ value

-- The bytes that spell a frame.
unfoldable pub encode_of : Frame → List ℕ
encode_of (Put nonce key version expiry value) =
    0x01 ∷ subject_bytes nonce key version ++ (moment_bytes expiry ++ value_bytes value)
encode_of (Get nonce key version) = 0x02 ∷ subject_bytes nonce key version
encode_of (Sweep nonce moment) = 0x03 ∷ version_bytes nonce ++ moment_bytes moment
encode_of (Stored nonce key version brick incarnation) =
    0x81 ∷ subject_bytes nonce key version ++ sender_bytes brick incarnation
encode_of (Found nonce key version brick incarnation expiry value) =
    0x82 ∷ subject_bytes nonce key version
    ++ (sender_bytes brick incarnation ++ (moment_bytes expiry ++ value_bytes value))
encode_of (Absent nonce key version brick incarnation swept) =
    0x83 ∷ subject_bytes nonce key version
    ++ (sender_bytes brick incarnation ++ moment_bytes swept)
encode_of (BrickFull nonce key version brick incarnation entries bytes) =
    0x84 ∷ subject_bytes nonce key version
    ++ (sender_bytes brick incarnation ++ (u32_bytes entries ++ u64_bytes bytes))
encode_of (Swept nonce brick incarnation moment) =
    0x85 ∷ version_bytes nonce ++ (sender_bytes brick incarnation ++ moment_bytes moment)

-- a version's numbers are in their ranges
pub record IsVersion (v : Version) : Type 0 where
  pub node : v.node < 2 ^ 16
  pub boot : v.boot < 2 ^ 32
  pub serial : v.serial < 2 ^ 64

-- a key is 16 bytes
pub record IsKey (key : SessionKey) : Type 0 where
  pub size : length key.0 ≡ 16
  pub bytes : AreBytes key.0

-- a value has at most 4,096 bytes
pub record IsValue (value : List ℕ) : Type 0 where
  pub few : length value ≤ MAX_SESSION_BYTES
  pub bytes : AreBytes value

-- what a moment may be
abbrev pub IsMoment : Moment → Type 0
IsMoment moment = moment.0 < 2 ^ 64

-- which value, and of which call
abbrev pub IsSubject : Version → SessionKey → Version → Type 0
IsSubject nonce key version = IsVersion nonce × IsKey key × IsVersion version

-- which brick
abbrev pub IsSender : BrickNo → ℕ → Type 0
IsSender brick incarnation = (brick.0 < 2 ^ 16) × (incarnation < 2 ^ 64)

-- the fields of a frame are in their ranges, as those of each frame of the code are
abbrev pub IsInRange : Frame → Type 0
IsInRange (Put nonce key version expiry value) =
    IsSubject nonce key version × IsMoment expiry × IsValue value
IsInRange (Get nonce key version) = IsSubject nonce key version
IsInRange (Sweep nonce moment) = IsVersion nonce × IsMoment moment
IsInRange (Stored nonce key version brick incarnation) =
    IsSubject nonce key version × IsSender brick incarnation
IsInRange (Found nonce key version brick incarnation expiry value) =
    IsSubject nonce key version × IsSender brick incarnation × IsMoment expiry × IsValue value
IsInRange (Absent nonce key version brick incarnation swept) =
    IsSubject nonce key version × IsSender brick incarnation × IsMoment swept
IsInRange (BrickFull nonce key version brick incarnation entries bytes) =
    IsSubject nonce key version × IsSender brick incarnation
    × (entries < 2 ^ 32) × (bytes < 2 ^ 64)
IsInRange (Swept nonce brick incarnation moment) =
    IsVersion nonce × IsSender brick incarnation × IsMoment moment

-- Bytes spell a frame: its fields are in their ranges, and the bytes are those of the frame.
pub record Spells (bytes : List ℕ) (frame : Frame) : Type 0 where
  pub in_range : IsInRange frame
  pub bytes_are : bytes ≡ encode_of frame

-- bytes spell no frame
abbrev pub SpellsNoFrame : List ℕ → Type 0
SpellsNoFrame bytes = (frame : Frame) → ¬ Spells bytes frame
