-- What is found among pairs is the first of its name.
use Rattle.std.proofs.Common.{◌≡◌, ◌≢◌, ℕ, Bool, true, false, cond, List, [], ◌∷◌, ◌++◌, Some, None, refl, ap, sym, ◌∙◌}
use Rattle.std.specs.Str.{bytes_eq}
use Rattle.std.proofs.lemmas.List.Elements.{All-nil, All-cons, All-head, All-tail}
use Rattle.std.proofs.lemmas.Slice.Eq.{bytes_eq-Decides}
use Rattle.form_values.specs.FirstPairs.{IsFirstPair, NoneHasName}
use Rattle.form_values.specs.Values.{first_text, text_of}

-- a pair without the name
abbrev Other : List ℕ → List ℕ × List ℕ → Type 0
Other name pair = text_of pair.0 ≢ name

-- two bytes that are tested as the same are the same, and others are not
same : (a b : List ℕ) → bytes_eq a b ≡ true → a ≡ b
same a b h = (bytes_eq-Decides a b).0 h

differs : (a b : List ℕ) → bytes_eq a b ≡ false → a ≢ b
differs a b h is = let yes : bytes_eq a b ≡ true = (bytes_eq-Decides a b).1 is in absurd (let no : true ≡ false = sym yes ∙ h in cc)

tested : (a b : List ℕ) → a ≢ b → bytes_eq a b ≡ false
tested a b other = by_test (bytes_eq a b) refl
  where
    by_test : (c : Bool) → bytes_eq a b ≡ c → c ≡ false
    by_test true e = absurd (other (same a b e))
    by_test false e = refl

-- the first of more pairs, where the one before has another name
later : (name text : List ℕ) (pair : List ℕ × List ℕ) (pairs : List (List ℕ × List ℕ)) → Other name pair → IsFirstPair name text pairs → IsFirstPair name text (pair ∷ pairs)
later name text pair pairs other h = record {
  before = pair ∷ h.before;
  pair = h.pair;
  behind = h.behind;
  pairs_are = ap (λ rest. pair ∷ rest) h.pairs_are;
  others = All-cons (Other name) pair h.before other h.others;
  has_name = h.has_name;
  has_text = h.has_text;
}

-- what is found is the text of the first pair
pub found_first : (name text : List ℕ) (pairs : List (List ℕ × List ℕ)) → first_text name pairs ≡ Some text → IsFirstPair name text pairs
found_first name text [] e = absurd (cc)
found_first name text (pair ∷ pairs) e =
    by_test (bytes_eq (text_of pair.0) name) refl e (λ rest. found_first name text pairs rest)
  where
    by_test : (c : Bool) → bytes_eq (text_of pair.0) name ≡ c → cond c (Some (text_of pair.1)) (first_text name pairs) ≡ Some text
        → (first_text name pairs ≡ Some text → IsFirstPair name text pairs) → IsFirstPair name text (pair ∷ pairs)
    by_test true is here next = record {
      before = [];
      pair = pair;
      behind = pairs;
      pairs_are = refl;
      others = All-nil (Other name);
      has_name = same (text_of pair.0) name is;
      has_text = (let s : Some (text_of pair.1) ≡ Some text = here in cc);
    }
    by_test false is here next = later name text pair pairs (differs (text_of pair.0) name is) (next here)

-- pairs that do not have the name are passed over
passed : (name : List ℕ) (before rest : List (List ℕ × List ℕ)) → NoneHasName name before → first_text name (before ++ rest) ≡ first_text name rest
passed name [] rest others = refl
passed name (pair ∷ before) rest others =
    rw (tested (text_of pair.0) name (All-head (Other name) pair before others)) (passed name before rest (All-tail (Other name) pair before others))

-- the first pair is found
pub first_found : (name text : List ℕ) (pairs : List (List ℕ × List ℕ)) → IsFirstPair name text pairs → first_text name pairs ≡ Some text
first_found name text pairs h =
    let here : first_text name (h.pair ∷ h.behind) ≡ Some (text_of h.pair.1) = rw ((bytes_eq-Decides (text_of h.pair.0) name).1 h.has_name) refl in
    ap (first_text name) h.pairs_are ∙ passed name h.before (h.pair ∷ h.behind) h.others ∙ here ∙ ap Some h.has_text

-- where none is found none has the name
pub none_found : (name : List ℕ) (pairs : List (List ℕ × List ℕ)) → first_text name pairs ≡ None → NoneHasName name pairs
none_found name [] e = All-nil (Other name)
none_found name (pair ∷ pairs) e =
    by_test (bytes_eq (text_of pair.0) name) refl e (λ rest. none_found name pairs rest)
  where
    by_test : (c : Bool) → bytes_eq (text_of pair.0) name ≡ c → cond c (Some (text_of pair.1)) (first_text name pairs) ≡ None
        → (first_text name pairs ≡ None → NoneHasName name pairs) → NoneHasName name (pair ∷ pairs)
    by_test true is here next = absurd (cc)
    by_test false is here next = All-cons (Other name) pair pairs (differs (text_of pair.0) name is) (next here)

-- and where none has the name none is found
pub none_named : (name : List ℕ) (pairs : List (List ℕ × List ℕ)) → NoneHasName name pairs → first_text name pairs ≡ None
none_named name [] others = refl
none_named name (pair ∷ pairs) others =
    rw (tested (text_of pair.0) name (All-head (Other name) pair pairs others)) (none_named name pairs (All-tail (Other name) pair pairs others))
