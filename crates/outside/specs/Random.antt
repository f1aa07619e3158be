-- Sources of random words, and what their callers see.
use Rattle.std.specs.Prelude.{◌≡◌, ℕ, ◌+◌, ◌%◌, ◌^◌, ◌⊎◌, List, take}
use Rattle.std.specs.Int.{from_be_bytes, w64}
use Rattle.sha2.specs.Sha256.{sha256}
use Rattle.outside.specs.Faults.{counted}

-- Where words are counted, the next one is given, and 0 follows the greatest.
abbrev pub PlainGives : ℕ → ℕ → ℕ → Type 0
PlainGives next word new = (word ≡ next) × (new ≡ (next + 1) % (2 ^ 64))

-- A source over the system's: the 32 bytes that it gave last or that follow them, and how often it failed.
pub record SystemRandomValue : Type 0 where
  pub seed : List ℕ
  pub faults : ℕ

-- the word that a seed gives: its first 8 bytes, big-endian
abbrev pub word_of : List ℕ → ℕ
word_of seed = from_be_bytes w64 (take 8 seed)

-- One call of the system's source: it failed, which is counted, and the seed is the SHA-256 of the one before; or it did
-- not, and the seed may be any.
abbrev pub HasDrawn : SystemRandomValue → SystemRandomValue → Type 0
HasDrawn old new =
    (new.faults ≡ old.faults) ⊎ ((new.faults ≡ counted old.faults) × (new.seed ≡ sha256 old.seed))
