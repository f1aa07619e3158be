-- Where a head ends, in the words of RFC 9112, section 2.1: at an empty line.
use Rattle.std.specs.Prelude.{◌≡◌, ◌⊎◌, ℕ, ◌<◌, Bool, true, false, List, [], ◌∷◌, ◌++◌, length}
use Rattle.std.specs.List.{list_any}
use Rattle.http_wire.specs.Extent.{is_text}

-- an empty line ends the bytes: a line feed, or CR LF, behind the line feed of a line before, and there is text before
-- it
abbrev pub EndsAtEmptyLine : List ℕ → Type 0
EndsAtEmptyLine bytes =
    (front : List ℕ) × (list_any is_text front ≡ true)
    × ((bytes ≡ front ++ 10 ∷ 10 ∷ []) ⊎ (bytes ≡ front ++ 10 ∷ 13 ∷ 10 ∷ []))

-- a front of the bytes passes a test, and no shorter front does
pub record IsShortest (test : List ℕ → Bool) (bytes part : List ℕ) : Type 0 where
  pub behind : List ℕ
  pub bytes_are : bytes ≡ part ++ behind
  pub passes : test part ≡ true
  pub none_before : (front rest : List ℕ) → part ≡ front ++ rest → 0 < length rest → test front ≡ false
