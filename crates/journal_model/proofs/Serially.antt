-- A legal journal is a serial execution of its calls.
use Rattle.std.proofs.Common.{◌≡◌, inl, inr, ℕ, zero, suc, ◌+◌, ◌<◌, ◌≤◌, Bool, true, false, cond, List, [], ◌∷◌, ◌++◌, length, take, Option, Some, None, All, option_map, refl, sym, ap, ◌∙◌, subst, arith, slice_get}
use Rattle.std.specs.List.{position}
use Rattle.std.proofs.lemmas.Bool.{cases_lt}
use Rattle.std.proofs.lemmas.Bool.Decides.{nat_tests}
use Rattle.std.proofs.lemmas.List.{take-take, length-take-le}
use Rattle.std.proofs.lemmas.Option.{slice_get_within}
use Rattle.crash_base.specs.declared.numbers.RequestNo.{RequestNo}
use Rattle.crash_base.specs.declared.rows.RowWrite.{RowWrite}
use Rattle.crash_base.proofs.Positions.{position-cons}
use Rattle.journal_model.specs.declared.entry.CommitEntry.{CommitEntry}
use Rattle.journal_model.specs.declared.entry.Entry.{Entry}
use Rattle.journal_model.specs.declared.entry.Entry.TheVariants.{Commit}
use Rattle.journal_model.specs.declared.entry.Mark.{Mark}
use Rattle.journal_model.specs.declared.entry.ReadMark.{ReadMark}
use Rattle.journal_model.specs.declared.entry.ReadMark.TheVariants.{Row, Table}
use Rattle.journal_model.specs.Legal.{IsLegal, IsCurrent, MayCommit}
use Rattle.journal_model.specs.Requests.{same_request, is_commit_of, commit_of, place_no}
use Rattle.journal_model.specs.Rows.{IsRead, value_of, rows_after}
use Rattle.journal_model.specs.Serial.{RunsThere, IsSerial}
use Rattle.journal_model.specs.Snapshots.{snapshot, newest, AgreeOn}
use Rattle.journal_model.proofs.Adding.{rows_after-push}
use Rattle.journal_model.proofs.Places.{slice_get-take}
use Rattle.journal_model.proofs.Reading.{value_found}
use Rattle.journal_model.proofs.Standing.{unwritten_since, current_reads}

-- what was read and not written since has its value still
value_holds : (base : List RowWrite) (es : List Entry) (at : ℕ) (read : ReadMark) → at ≤ length es → newest es read ≤ at → value_of base (take at es) read ≡ value_of base es read
value_holds base es at (Row id) within old = sym (value_found base (take at es) id) ∙ unwritten_since base es at (Row id) within old ∙ value_found base es id
value_holds base es at (Table t) within old = refl

values_hold : (base : List RowWrite) (es : List Entry) (e : CommitEntry) → IsCurrent base es e → All (IsRead base es) e.reads
values_hold base es e current = λ i d within. current.values i d within ∙ value_holds base es e.at.0 _ current.at (current.reads i d within)

-- the entries up to a place and the one there
take_next : {A : Type 0} (xs : List A) (i : ℕ) (x : A) → slice_get xs i ≡ Some x → take (suc i) xs ≡ take i xs ++ x ∷ []
take_next [] i x there = absurd (cc)
take_next (y ∷ ys) zero x there = let same : y ≡ x = cc in ap (λ z. z ∷ []) same
take_next (y ∷ ys) (suc i) x there = ap (λ zs. y ∷ zs) (take_next ys i x there)

runs_there : (base : List RowWrite) (es : List Entry) (place : ℕ) (e : CommitEntry) → place ≤ length es → slice_get es place ≡ Some (Commit e) → IsCurrent base (take place es) e → RunsThere base es place e
runs_there base es place e inside there current =
    let within : e.at.0 ≤ place = omega (arith, current.at, length-take-le place es inside) in
    let next : place + 1 ≡ suc place = omega arith in
    let begin : take e.at.0 (take place es) ≡ take e.at.0 es = take-take e.at.0 place es within in
    record {
      values = values_hold base (take place es) e current;
      same = subst (λ (xs : List Entry). All (λ (m : Mark). AgreeOn (rows_after base xs) (snapshot base es place) m.read) e.reads) begin (current_reads base (take place es) e current);
      puts = ap (snapshot base es) next ∙ ap (rows_after base) (take_next es place (Commit e) there) ∙ rows_after-push base (take place es) (Commit e);
    }

pub legal_serial : (base : List RowWrite) (es : List Entry) → IsLegal base es → IsSerial base es
legal_serial base es legal = record {
  each = λ place e there.
      let inside : place < length es = slice_get_within es place (Commit e) there in
      let may : MayCommit base (take place es) e = legal.each place (Commit e) there in
      runs_there base es place e (omega arith) there may.current;
}

-- where no place is found, nothing passes the test
none_passes : {A : Type 0} (p : A → Bool) (xs : List A) (i : ℕ) (x : A) → position p xs ≡ None → slice_get xs i ≡ Some x → p x ≡ false
none_passes p [] i x none there = absurd (cc)
none_passes {A} p (y ∷ ys) i x none there = go (p y) refl (position p ys) refl (sym (position-cons p y ys) ∙ none) (none_passes p ys) i there
  where
    go : (b : Bool) → p y ≡ b → (o : Option ℕ) → position p ys ≡ o → cond b (Some 0) (option_map suc o) ≡ None → ((k : ℕ) (z : A) → position p ys ≡ None → slice_get ys k ≡ Some z → p z ≡ false) → (k : ℕ) → slice_get (y ∷ ys) k ≡ Some x → p x ≡ false
    go true is o later h rest k at = absurd (cc)
    go false is (Some n) later h rest k at = absurd (cc)
    go false is None later h rest zero at = let same : y ≡ x = cc in ap p (sym same) ∙ is
    go false is None later h rest (suc k) at = rest k x later at

pub not_committed : (es : List Entry) (r : RequestNo) (i : ℕ) (d : CommitEntry) → commit_of es r ≡ None → slice_get es i ≡ Some (Commit d) → same_request d.request r ≡ false
not_committed es r i d none there = go (position (is_commit_of r) es) refl none
  where
    go : (o : Option ℕ) → position (is_commit_of r) es ≡ o → option_map place_no o ≡ None → same_request d.request r ≡ false
    go None is h = none_passes (is_commit_of r) es i (Commit d) is there
    go (Some n) is h = absurd (cc)

-- the later of two commits is of another request
once_later : (base : List RowWrite) (es : List Entry) (i j : ℕ) (d e : CommitEntry) → IsLegal base es → i < j → slice_get es i ≡ Some (Commit d) → slice_get es j ≡ Some (Commit e) → same_request d.request e.request ≡ false
once_later base es i j d e legal before first second =
    let may : MayCommit base (take j es) e = legal.each j (Commit e) second in
    not_committed (take j es) e.request i d may.once (slice_get-take es j i (Commit d) before first)

same_request_comm : (a b : RequestNo) → same_request a b ≡ same_request b a
same_request_comm a b = grind (arith, nat_tests)

pub commits_once : (base : List RowWrite) (es : List Entry) (i j : ℕ) (d e : CommitEntry) → IsLegal base es → slice_get es i ≡ Some (Commit d) → slice_get es j ≡ Some (Commit e) → same_request d.request e.request ≡ true → i ≡ j
commits_once base es i j d e legal first second same = elim (cases_lt i j) [
  | inl before ↦ absurd (let other = once_later base es i j d e legal before first second in cc)
  | inr after ↦ elim (cases_lt j i) [
    | inl before ↦ absurd (let other = same_request_comm d.request e.request ∙ once_later base es j i e d legal before second first in cc)
    | inr both ↦ omega arith
  ]
]
