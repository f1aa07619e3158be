-- How many bytes spell a frame.
use Rattle.std.proofs.Common.{◌≡◌, ℕ, ◌+◌, ◌^◌, ◌<◌, ◌≤◌, List, ◌++◌, length, refl, ap, ◌∙◌, arith}
use Rattle.std.proofs.Math.ListN.{replicate}
use Rattle.std.proofs.lemmas.List.{length-append, length-replicate}
use Rattle.std.proofs.lemmas.List.Elements.{All-replicate}
use Rattle.crash_base.specs.declared.bounded.TheConstants.{MAX_SESSION_BYTES}
use Rattle.crash_base.specs.declared.numbers.BrickNo.{BrickNo}
use Rattle.crash_base.specs.declared.numbers.Moment.{Moment}
use Rattle.crash_base.specs.declared.numbers.SessionKey.{SessionKey}
use Rattle.crash_base.specs.declared.numbers.Version.{Version}
use Rattle.crash_base.specs.declared.items.TheConstants.{MAX_FRAME_BYTES}
use Rattle.byte_fields.specs.Spelling.{u16_bytes, u32_bytes, u64_bytes}
use Rattle.ssm_frames.specs.declared.frame.Frame.{Frame}
use Rattle.ssm_frames.specs.declared.frame.Frame.TheVariants.{Put, Get, Sweep, Stored, Found, Absent, BrickFull, Swept}
use Rattle.ssm_frames.specs.Spelling.{version_bytes, subject_bytes, sender_bytes, moment_bytes, value_bytes, encode_of, IsVersion, IsKey, IsValue, IsSender, IsInRange, Spells}

size16 : (n : ℕ) → length (u16_bytes n) ≡ 2
unfolding u16_bytes
size16 n = refl

size32 : (n : ℕ) → length (u32_bytes n) ≡ 4
unfolding u32_bytes
size32 n = refl

size64 : (n : ℕ) → length (u64_bytes n) ≡ 8
unfolding u64_bytes
size64 n = refl

version_size : (v : Version) → length (version_bytes v) ≡ 14
unfolding version_bytes
version_size v = omega (arith, length-append (u16_bytes v.node) (u32_bytes v.boot ++ u64_bytes v.serial), length-append (u32_bytes v.boot) (u64_bytes v.serial), size16 v.node, size32 v.boot, size64 v.serial)

subject_size : (nonce : Version) (key : SessionKey) (version : Version) → IsKey key → length (subject_bytes nonce key version) ≡ 44
unfolding subject_bytes
subject_size nonce key version h = omega (arith, length-append (version_bytes nonce) (key.0 ++ version_bytes version), length-append key.0 (version_bytes version), version_size nonce, version_size version, h.size)

sender_size : (brick : BrickNo) (incarnation : ℕ) → length (sender_bytes brick incarnation) ≡ 10
unfolding sender_bytes
sender_size brick incarnation = omega (arith, length-append (u16_bytes brick.0) (u64_bytes incarnation), size16 brick.0, size64 incarnation)

moment_size : (moment : Moment) → length (moment_bytes moment) ≡ 8
unfolding moment_bytes
moment_size moment = size64 moment.0

value_size : (value : List ℕ) → length (value_bytes value) ≡ 2 + length value
unfolding value_bytes
value_size value = omega (arith, length-append (u16_bytes (length value)) value, size16 (length value))

-- a Found, by its value's length
found_size : (nonce : Version) (key : SessionKey) (version : Version) (brick : BrickNo) (incarnation : ℕ) (expiry : Moment) (value : List ℕ) → IsKey key → length (encode_of (Found nonce key version brick incarnation expiry value)) ≡ 65 + length value
unfolding encode_of
found_size nonce key version brick incarnation expiry value h = omega (arith, length-append (subject_bytes nonce key version) (sender_bytes brick incarnation ++ (moment_bytes expiry ++ value_bytes value)), length-append (sender_bytes brick incarnation) (moment_bytes expiry ++ value_bytes value), length-append (moment_bytes expiry) (value_bytes value), subject_size nonce key version h, sender_size brick incarnation, moment_size expiry, value_size value)

-- a frame is spelled by a few bytes at least, and by not too many
abbrev AreFew : List ℕ → Type 0
AreFew bytes = (1 ≤ length bytes) × (length bytes ≤ MAX_FRAME_BYTES)

pub frame_size : (frame : Frame) → IsInRange frame → AreFew (encode_of frame)
unfolding encode_of
frame_size (Put nonce key version expiry value) h =
    let few = h.2.few in
    let e : length (encode_of (Put nonce key version expiry value)) ≡ 55 + length value = omega (arith, length-append (subject_bytes nonce key version) (moment_bytes expiry ++ value_bytes value), length-append (moment_bytes expiry) (value_bytes value), subject_size nonce key version h.0.1, moment_size expiry, value_size value) in
    (omega arith, omega arith)
frame_size (Get nonce key version) h = let e = subject_size nonce key version h.1 in (omega arith, omega arith)
frame_size (Sweep nonce moment) h = let e = length-append (version_bytes nonce) (moment_bytes moment) in let v = version_size nonce in let m = moment_size moment in (omega arith, omega arith)
frame_size (Stored nonce key version brick incarnation) h = let e = length-append (subject_bytes nonce key version) (sender_bytes brick incarnation) in let s = subject_size nonce key version h.0.1 in let b = sender_size brick incarnation in (omega arith, omega arith)
frame_size (Found nonce key version brick incarnation expiry value) h = let few = h.3.few in let e = found_size nonce key version brick incarnation expiry value h.0.1 in (omega arith, omega arith)
frame_size (Absent nonce key version brick incarnation swept) h =
    let e = length-append (subject_bytes nonce key version) (sender_bytes brick incarnation ++ moment_bytes swept) in
    let f = length-append (sender_bytes brick incarnation) (moment_bytes swept) in
    let s = subject_size nonce key version h.0.1 in
    let b = sender_size brick incarnation in
    let m = moment_size swept in
    (omega arith, omega arith)
frame_size (BrickFull nonce key version brick incarnation entries bytes) h =
    let e = length-append (subject_bytes nonce key version) (sender_bytes brick incarnation ++ (u32_bytes entries ++ u64_bytes bytes)) in
    let f = length-append (sender_bytes brick incarnation) (u32_bytes entries ++ u64_bytes bytes) in
    let g = length-append (u32_bytes entries) (u64_bytes bytes) in
    let s = subject_size nonce key version h.0.1 in
    let b = sender_size brick incarnation in
    let n = size32 entries in
    let m = size64 bytes in
    (omega arith, omega arith)
frame_size (Swept nonce brick incarnation moment) h =
    let e = length-append (version_bytes nonce) (sender_bytes brick incarnation ++ moment_bytes moment) in
    let f = length-append (sender_bytes brick incarnation) (moment_bytes moment) in
    let v = version_size nonce in
    let b = sender_size brick incarnation in
    let m = moment_size moment in
    (omega arith, omega arith)

pub spelling_short : (bytes : List ℕ) (frame : Frame) → Spells bytes frame → length bytes ≤ MAX_FRAME_BYTES
spelling_short bytes frame s = rw s.bytes_are ((frame_size frame s.in_range).1)

-- the version, the brick and the moment whose numbers are 0
abbrev no_version : Version
no_version = record { node = 0; boot = 0; serial = 0 }

abbrev no_brick : BrickNo
no_brick = record { 0 = 0 }

abbrev no_moment : Moment
no_moment = record { 0 = 0 }

-- a Found with a value of so many bytes
long_found : ℕ → ℕ → Frame
long_found size n = Found no_version (record { 0 = replicate size 0 }) no_version no_brick 0 no_moment (replicate n 0)

long_spelled : (size n : ℕ) → size ≡ 16 → n ≤ MAX_SESSION_BYTES → Spells (encode_of (long_found size n)) (long_found size n) × (length (encode_of (long_found size n)) ≡ 65 + n)
unfolding long_found
long_spelled size n e few =
    let zero_byte : 0 < 2 ^ 8 = omega arith in
    let v : IsVersion no_version = record { node = omega arith; boot = omega arith; serial = omega arith } in
    let k : IsKey (record { 0 = replicate size 0 }) = record { size = length-replicate size 0 ∙ e; bytes = All-replicate (λ b. b < 2 ^ 8) size 0 zero_byte } in
    let from : IsSender no_brick 0 = (omega arith, omega arith) in
    let expiry : 0 < 2 ^ 64 = omega arith in
    let len : length (replicate n 0) ≡ n = length-replicate n 0 in
    let w : IsValue (replicate n 0) = record { few = rw len few; bytes = All-replicate (λ b. b < 2 ^ 8) n 0 zero_byte } in
    (record { in_range = ((v, k, v), from, expiry, w); bytes_are = refl }, found_size no_version (record { 0 = replicate size 0 }) no_version no_brick 0 no_moment (replicate n 0) k ∙ ap (λ m. 65 + m) len)

pub longest : (bytes : List ℕ) × (frame : Frame) × Spells bytes frame × (length bytes ≡ MAX_FRAME_BYTES)
longest = let s = long_spelled 16 MAX_SESSION_BYTES refl (omega arith) in (encode_of (long_found 16 MAX_SESSION_BYTES), long_found 16 MAX_SESSION_BYTES, s.0, s.1)
