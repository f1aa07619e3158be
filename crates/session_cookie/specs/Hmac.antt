-- HMAC-SHA-256 (RFC 2104).
use Rattle.std.specs.Prelude.{ℕ, ◌-◌, List, ◌++◌, length, map, replicate, bit_xor, if◌then◌else◌, nat_lt}
use Rattle.sha2.specs.Sha256.{sha256}

-- the key as a block of 64 bytes: hashed where it is longer, and then padded with zeros (section 2)
abbrev pub block_of : List ℕ → List ℕ
block_of key =
    let short = if nat_lt 64 (length key) then sha256 key else key in
    short ++ replicate (64 - length short) 0

-- each byte of a block under a mask
abbrev pub masked : ℕ → List ℕ → List ℕ
masked mask block = map (λ b. bit_xor b mask) block

-- The HMAC of a text under a key. The inner digest is that of the key's block under the inner pad,
-- followed by the text; the HMAC is the digest of the key's block under the outer pad, followed by the
-- inner digest (section 2).
unfoldable pub hmac : List ℕ → List ℕ → List ℕ
hmac key text =
    let block = block_of key in
    sha256 (masked 0x5c block ++ sha256 (masked 0x36 block ++ text))
