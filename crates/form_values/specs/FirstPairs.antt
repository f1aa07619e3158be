-- The first pair of a name among the pairs of a form.
use Rattle.std.specs.Prelude.{◌≡◌, ◌≢◌, ℕ, List, ◌∷◌, ◌++◌, All}
use Rattle.form_values.specs.Values.{text_of}

-- none of these pairs has the name
abbrev pub NoneHasName : List ℕ → List (List ℕ × List ℕ) → Type 0
NoneHasName name pairs = All (λ pair. text_of pair.0 ≢ name) pairs

-- a pair has the name and this text, and none before it has the name
pub record IsFirstPair (name text : List ℕ) (pairs : List (List ℕ × List ℕ)) : Type 0 where
  pub before : List (List ℕ × List ℕ)
  pub pair : List ℕ × List ℕ
  pub behind : List (List ℕ × List ℕ)
  pub pairs_are : pairs ≡ before ++ pair ∷ behind
  pub others : NoneHasName name before
  pub has_name : text_of pair.0 ≡ name
  pub has_text : text_of pair.1 ≡ text
