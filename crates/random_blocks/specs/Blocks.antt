-- A source of random words by blocks, and what a word of it is.
use Rattle.std.specs.Prelude.{◌≡◌, ℕ, ◌<◌, ◌≤◌, ◌⊎◌, List, take, drop, length}
use Rattle.sha2.specs.Sha256.{sha256}
use Rattle.outside.specs.Faults.{counted}
use Rattle.outside.specs.Random.{word_of}

-- The bytes of its block that went into no word yet, the 32 bytes that words come of where the system fails, and how
-- often it failed.
pub record BlockValue : Type 0 where
  pub left : List ℕ
  pub seed : List ℕ
  pub faults : ℕ

-- The word is the next 8 bytes of the block.
pub record IsCut (old : BlockValue) (word : ℕ) (new : BlockValue) : Type 0 where
  pub enough : 8 ≤ length old.left
  pub word_is : word ≡ word_of old.left
  pub after : new ≡ record { left = drop 8 old.left; seed = old.seed; faults = old.faults }

-- A block of 256 bytes came, of which the first 32 are the seed, and the others are for words.
pub record IsFilled (left seed : List ℕ) : Type 0 where
  pub block : List ℕ
  pub size : length block ≡ 256
  pub seed_is : seed ≡ take 32 block
  pub left_is : left ≡ drop 32 block

-- The block was spent, and the word is the first of a new one.
pub record IsFirst (old : BlockValue) (word : ℕ) (new : BlockValue) : Type 0 where
  pub spent : length old.left < 8
  pub left : List ℕ
  pub filled : IsFilled left new.seed
  pub word_is : word ≡ word_of left
  pub left_is : new.left ≡ drop 8 left
  pub faults_are : new.faults ≡ old.faults

-- The block was spent, and the system failed, which is counted: the seed is the SHA-256 of the one before, and the word
-- its first 8 bytes.
pub record IsHashed (old : BlockValue) (word : ℕ) (new : BlockValue) : Type 0 where
  pub spent : length old.left < 8
  pub word_is : word ≡ word_of new.seed
  pub after : new ≡ record { left = old.left; seed = sha256 old.seed; faults = counted old.faults }

-- A word was drawn.
abbrev pub HasDrawn : BlockValue → ℕ → BlockValue → Type 0
HasDrawn old word new = IsCut old word new ⊎ (IsFirst old word new ⊎ IsHashed old word new)
