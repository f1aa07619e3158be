-- The first pair of the cookie's name among the pairs of the Cookie fields (RFC 6265, section 4.2.1).
use Rattle.std.specs.Prelude.{◌≡◌, ℕ, ◌==◌, List, [], ◌∷◌, ◌++◌, All, codes}
use Rattle.std.specs.List.{slice_split}
use Rattle.http_wire.specs.Fields.{is_space_or, trimmed}

-- a pair is the cookie's, with this text
abbrev pub IsCookiePair : List ℕ → List ℕ → Type 0
IsCookiePair text pair = trimmed (is_space_or 32) pair ≡ codes "crash=" ++ text

-- none of these pairs is the cookie's
abbrev pub NoneIsCookie : List (List ℕ) → Type 0
NoneIsCookie pairs = All (λ pair. (text : List ℕ) → ¬ (IsCookiePair text pair)) pairs

-- the pairs of these values, in order
abbrev pub pairs_of : List (List ℕ) → List (List ℕ)
pairs_of [] = []
pairs_of (value ∷ values) = slice_split (λ b. b == 59) value ++ pairs_of values

-- a pair is the cookie's with this text, and none before it is the cookie's
pub record IsFirstCookie (text : List ℕ) (pairs : List (List ℕ)) : Type 0 where
  pub before : List (List ℕ)
  pub pair : List ℕ
  pub behind : List (List ℕ)
  pub pairs_are : pairs ≡ before ++ pair ∷ behind
  pub has_text : IsCookiePair text pair
  pub others : NoneIsCookie before
