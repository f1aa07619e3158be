-- The bytes that spell fields, whose numbers are big-endian.
use Rattle.std.specs.Prelude.{ℕ, ◌^◌, ◌<◌, All, Bool, if◌then◌else◌, List, [], ◌∷◌, ◌++◌, length}
use Rattle.std.specs.Int.{w16, w32, w64, to_be_bytes}

-- numbers that bytes may be
abbrev pub AreBytes : List ℕ → Type 0
AreBytes bytes = All (λ byte. byte < 2 ^ 8) bytes

-- a number of one byte
unfoldable pub u8_bytes : ℕ → List ℕ
u8_bytes n = n ∷ []

-- a number of two bytes
unfoldable pub u16_bytes : ℕ → List ℕ
u16_bytes n = to_be_bytes w16 n

-- a number of four bytes
unfoldable pub u32_bytes : ℕ → List ℕ
u32_bytes n = to_be_bytes w32 n

-- a number of eight bytes
unfoldable pub u64_bytes : ℕ → List ℕ
u64_bytes n = to_be_bytes w64 n

-- a text: its length in two bytes, and then its bytes
unfoldable pub text16 : List ℕ → List ℕ
text16 text = u16_bytes (length text) ++ text

-- 1 where something is so, and else 0
abbrev pub flag : Bool → ℕ
flag is_so = if is_so then 1 else 0
