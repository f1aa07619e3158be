-- What a read marks.
use Rattle.std.proofs.Common.{◌≡◌, ◌≢◌, ℕ, Bool, true, false, cond, List, [], ◌∷◌, ◌++◌, Option, All, refl, ap, ◌∙◌, arith}
use Rattle.std.specs.List.{Any}
use Rattle.std.proofs.lemmas.Bool.{eqb-true, false_from_ne_true}
use Rattle.std.proofs.lemmas.Bool.Decides.{nat_tests}
use Rattle.std.proofs.lemmas.List.Elements.{All-weaker}
use Rattle.std.proofs.lemmas.List.Folds.{Any-from_list_any, list_any-from_Any, list_any_none}
use Rattle.std.proofs.lemmas.List.Quantifiers.{Any-push}
use Rattle.crash_base.proofs.IdOrder.{same_id-true, same_id-self}
use Rattle.journal_model.specs.declared.entry.Mark.{Mark}
use Rattle.journal_model.specs.declared.entry.ReadMark.{ReadMark}
use Rattle.journal_model.specs.declared.entry.ReadMark.TheVariants.{Row, Table}
use Rattle.journal_model.specs.Calls.{same_mark, is_marked, marked_with}

-- a mark is of this
abbrev pub IsMarkOf : ReadMark → Mark → Type 0
IsMarkOf read m = m.read ≡ read

same_mark-true : (a b : ReadMark) → same_mark a b ≡ true → a ≡ b
same_mark-true (Row a) (Row b) is = ap Row (same_id-true a b is)
same_mark-true (Row a) (Table u) is = absurd (cc)
same_mark-true (Table t) (Row b) is = absurd (cc)
same_mark-true (Table t) (Table u) is = ap Table (eqb-true t u is)

same_mark-self : (a : ReadMark) → same_mark a a ≡ true
same_mark-self (Row a) = same_id-self a
same_mark-self (Table t) = grind (arith, nat_tests)

same_mark-is : (m : Mark) (read : ReadMark) → m.read ≡ read → same_mark m.read read ≡ true
same_mark-is m read is = ap (λ r. same_mark r read) is ∙ same_mark-self read

-- the test finds a mark exactly where there is one
marked_any : (marks : List Mark) (read : ReadMark) → is_marked marks read ≡ true → Any (IsMarkOf read) marks
marked_any marks read is =
    let found = Any-from_list_any (λ (m : Mark). same_mark m.read read) marks is in
    (found.0, found.1, found.2, found.3, same_mark-true found.1.read read found.4)

any_marked : (marks : List Mark) (read : ReadMark) → Any (IsMarkOf read) marks → is_marked marks read ≡ true
any_marked marks read any =
    list_any-from_Any (λ (m : Mark). same_mark m.read read) marks (any.0, any.1, any.2, any.3, same_mark-is any.1 read any.4)

none_marked : (marks : List Mark) (read : ReadMark) → All (λ (m : Mark). m.read ≢ read) marks → is_marked marks read ≡ false
none_marked marks read none =
    let test : Mark → Bool = λ m. same_mark m.read read in
    list_any_none test marks (All-weaker (λ (m : Mark). m.read ≢ read) (λ m. test m ≡ false) (λ m other. false_from_ne_true (test m) (λ is. other (same_mark-true m.read read is))) marks none)

-- a read that is marked leaves a mark of just what was read
pub marks_have : (read : ReadMark) (value : Option (List ℕ)) (marks : List Mark) → Any (λ (m : Mark). m.read ≡ read) (marked_with read value marks)
marks_have read value marks = go (is_marked marks read) refl
  where
    go : (b : Bool) → is_marked marks read ≡ b → Any (IsMarkOf read) (cond b marks (marks ++ record { read = read; value = value } ∷ []))
    go true is = marked_any marks read is
    go false is = Any-push (IsMarkOf read) marks (record { read = read; value = value }) refl

-- the first read adds it last
pub marks_first : (read : ReadMark) (value : Option (List ℕ)) (marks : List Mark) → All (λ (m : Mark). m.read ≢ read) marks → marked_with read value marks ≡ marks ++ record { read = read; value = value } ∷ []
marks_first read value marks none = ap (λ b. cond b marks (marks ++ record { read = read; value = value } ∷ [])) (none_marked marks read none)

-- a later one leaves the marks
pub marks_again : (read : ReadMark) (value : Option (List ℕ)) (marks : List Mark) → Any (λ (m : Mark). m.read ≡ read) marks → marked_with read value marks ≡ marks
marks_again read value marks any = ap (λ b. cond b marks (marks ++ record { read = read; value = value } ∷ [])) (any_marked marks read any)
