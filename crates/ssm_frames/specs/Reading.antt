-- Which frame bytes spell, read from the first byte to the last.
use Rattle.std.specs.Prelude.{ℕ, ◌==◌, ◌||◌, nat_lt, Bool, false, if◌then◌else◌, List, [], ◌∷◌, length, Option, Some, None, IsTrue}
use Rattle.std.specs.Option.{option_and_then}
use Rattle.std.specs.Int.{w16, w32, w64}
use Rattle.crash_base.specs.declared.bounded.TheConstants.{MAX_SESSION_BYTES}
use Rattle.crash_base.specs.declared.numbers.Moment.{Moment}
use Rattle.crash_base.specs.declared.numbers.SessionKey.{SessionKey}
use Rattle.crash_base.specs.declared.numbers.Version.{Version}
use Rattle.byte_fields.specs.Reading.{◌>>=◌, Field, made, both, bytes_at, number_at}
use Rattle.byte_fields.specs.declared.error.ReadError.{ReadError}
use Rattle.byte_fields.specs.declared.error.ReadError.TheVariants.{Bad, OutOfMemory}
use Rattle.ssm_frames.specs.declared.fields.Subject.{Subject}
use Rattle.ssm_frames.specs.declared.fields.Sender.{Sender}
use Rattle.ssm_frames.specs.declared.frame.Frame.{Frame}
use Rattle.ssm_frames.specs.declared.frame.Frame.TheVariants.{Put, Get, Sweep, Stored, Found, Absent, BrickFull, Swept}

-- the value of a field after which nothing follows
abbrev pub whole : {A : Type 0} → Option (A × List ℕ) → Option A
whole found = option_and_then (λ x. if length x.1 == 0 then Some x.0 else None) found

-- a version: its node, boot and serial
unfoldable pub version_at : Field Version
version_at bytes =
    made (λ n. record { node = n.0; boot = n.1.0; serial = n.1.1 })
    (both (number_at w16) (both (number_at w32) (number_at w64))) bytes

-- a key: 16 bytes
unfoldable pub key_at : Field SessionKey
key_at bytes = made (λ key. record { 0 = key }) (bytes_at 16) bytes

-- which value, and of which call: nonce, key and version
unfoldable pub subject_at : Field Subject
subject_at bytes =
    made (λ s. record { nonce = s.0; key = s.1.0; version = s.1.1 })
    (both version_at (both key_at version_at)) bytes

-- which brick: its number and incarnation
unfoldable pub sender_at : Field Sender
sender_at bytes =
    made (λ s. record { brick = record { 0 = s.0 }; incarnation = s.1 })
    (both (number_at w16) (number_at w64)) bytes

-- a moment
unfoldable pub moment_at : Field Moment
moment_at bytes = made (λ n. record { 0 = n }) (number_at w64) bytes

-- a value: its length, if it is at most 4,096, and then its bytes
unfoldable pub value_at : Field (List ℕ)
value_at bytes = do
  size ← number_at w16 bytes
  if nat_lt MAX_SESSION_BYTES size.0 then None else bytes_at size.0 size.1

-- a Put behind its first byte
unfoldable pub put_at : Field Frame
put_at bytes =
    made (λ f. Put f.0.nonce f.0.key f.0.version f.1.0 f.1.1)
    (both subject_at (both moment_at value_at)) bytes

-- a Get behind its first byte
unfoldable pub get_at : Field Frame
get_at bytes = made (λ f. Get f.nonce f.key f.version) subject_at bytes

-- a Sweep behind its first byte
unfoldable pub sweep_at : Field Frame
sweep_at bytes = made (λ f. Sweep f.0 f.1) (both version_at moment_at) bytes

-- a Stored behind its first byte
unfoldable pub stored_at : Field Frame
stored_at bytes =
    made (λ f. Stored f.0.nonce f.0.key f.0.version f.1.brick f.1.incarnation)
    (both subject_at sender_at) bytes

-- a Found behind its first byte
unfoldable pub found_at : Field Frame
found_at bytes =
    made
    (λ f. Found f.0.nonce f.0.key f.0.version f.1.0.brick f.1.0.incarnation f.1.1.0 f.1.1.1)
    (both subject_at (both sender_at (both moment_at value_at))) bytes

-- an Absent behind its first byte
unfoldable pub absent_at : Field Frame
absent_at bytes =
    made (λ f. Absent f.0.nonce f.0.key f.0.version f.1.0.brick f.1.0.incarnation f.1.1)
    (both subject_at (both sender_at moment_at)) bytes

-- a BrickFull behind its first byte
unfoldable pub brick_full_at : Field Frame
brick_full_at bytes =
    made
    (λ f.
    BrickFull f.0.nonce f.0.key f.0.version f.1.0.brick f.1.0.incarnation f.1.1.0 f.1.1.1)
    (both subject_at (both sender_at (both (number_at w32) (number_at w64)))) bytes

-- a Swept behind its first byte
unfoldable pub swept_at : Field Frame
swept_at bytes =
    made (λ f. Swept f.0 f.1.0.brick f.1.0.incarnation f.1.1)
    (both version_at (both sender_at moment_at)) bytes

-- a frame with this first byte, of the bytes behind it
abbrev pub frame_behind : ℕ → Field Frame
frame_behind first rest =
    if first == 0x01 then put_at rest else (
    if first == 0x02 then get_at rest else (
    if first == 0x03 then sweep_at rest else (
    if first == 0x81 then stored_at rest else (
    if first == 0x82 then found_at rest else (
    if first == 0x83 then absent_at rest else (
    if first == 0x84 then brick_full_at rest else (
    if first == 0x85 then swept_at rest else None)))))))

-- a frame at the front of bytes, and the bytes after it
unfoldable pub frame_at : Field Frame
frame_at [] = None
frame_at (first ∷ rest) = frame_behind first rest

-- The frame that bytes spell, the first to the last of them.
unfoldable pub decode_of : List ℕ → Option Frame
decode_of bytes = whole (frame_at bytes)

-- whether a first byte is that of a frame that has a value: a Put or a Found
abbrev pub has_value : ℕ → Bool
has_value first = first == 0x01 || first == 0x82

-- whether bytes begin as a frame that has a value, so that memory is taken for a copy of it
abbrev pub takes_memory : List ℕ → Bool
takes_memory [] = false
takes_memory (first ∷ rest) = has_value first

-- an error is want of memory only where this is so
abbrev pub LacksMemoryOnlyIf : Bool → ReadError → Type 0
LacksMemoryOnlyIf needed Bad = Unit {0}
LacksMemoryOnlyIf needed OutOfMemory = IsTrue needed
