-- The first conflict of a call.
use Rattle.std.proofs.Common.{◌≡◌, ℕ, ◌≤◌, nat_lt, Bool, true, false, cond, List, [], ◌∷◌, ◌++◌, map, Some, None, All, refl, ap, arith}
use Rattle.std.proofs.lemmas.Bool.Decides.{nat_tests}
use Rattle.std.proofs.lemmas.List.Elements.{All-nil, All-cons, All-head, All-tail}
use Rattle.crash_base.specs.declared.rows.RowWrite.{RowWrite}
use Rattle.journal_model.specs.declared.conflict.Conflict.{Conflict}
use Rattle.journal_model.specs.declared.entry.Entry.{Entry}
use Rattle.journal_model.specs.declared.entry.Mark.{Mark}
use Rattle.journal_model.specs.declared.entry.ReadMark.{ReadMark}
use Rattle.journal_model.specs.declared.entry.ReadMark.TheVariants.{Row}
use Rattle.journal_model.specs.Calls.{Call}
use Rattle.journal_model.specs.Conflicts.{conflict_at, conflict_in, conflict_of, IsFirstNewer}
use Rattle.journal_model.specs.Snapshots.{newest}

-- what is found is the first that was written since
pub first_newer : (es : List Entry) (at : ℕ) (reads : List ReadMark) (c : Conflict) → conflict_in es at reads ≡ Some c → IsFirstNewer es at reads c
first_newer es at [] c found = absurd (cc)
first_newer es at (read ∷ reads) c found = go (nat_lt at (newest es read)) refl found (first_newer es at reads c)
  where
    go : (b : Bool) → nat_lt at (newest es read) ≡ b → cond b (Some (conflict_at es at read)) (conflict_in es at reads) ≡ Some c → (conflict_in es at reads ≡ Some c → IsFirstNewer es at reads c) → IsFirstNewer es at (read ∷ reads) c
    go true is h later = record { before = []; read = read; after = reads; parts = refl; older = All-nil (λ r. newest es r ≤ at); newer = grind (arith, nat_tests); shown = cc }
    go false is h later =
        let next = later h in
        let old : newest es read ≤ at = grind (arith, nat_tests) in
        record {
          before = read ∷ next.before;
          read = next.read;
          after = next.after;
          parts = ap (λ rs. read ∷ rs) next.parts;
          older = All-cons (λ r. newest es r ≤ at) read next.before old next.older;
          newer = next.newer;
          shown = next.shown;
        }

-- where none is found, nothing was written since
pub none_newer : (es : List Entry) (at : ℕ) (reads : List ReadMark) → conflict_in es at reads ≡ None → All (λ r. newest es r ≤ at) reads
none_newer es at [] none = All-nil (λ r. newest es r ≤ at)
none_newer es at (read ∷ reads) none = go (nat_lt at (newest es read)) refl none (none_newer es at reads)
  where
    go : (b : Bool) → nat_lt at (newest es read) ≡ b → cond b (Some (conflict_at es at read)) (conflict_in es at reads) ≡ None → (conflict_in es at reads ≡ None → All (λ r. newest es r ≤ at) reads) → All (λ r. newest es r ≤ at) (read ∷ reads)
    go true is h later = absurd (cc)
    go false is h later = All-cons (λ r. newest es r ≤ at) read reads (grind (arith, nat_tests)) (later h)

pub newer_none : (es : List Entry) (at : ℕ) (reads : List ReadMark) → All (λ r. newest es r ≤ at) reads → conflict_in es at reads ≡ None
newer_none es at [] older = refl
newer_none es at (read ∷ reads) older =
    let old : newest es read ≤ at = All-head (λ r. newest es r ≤ at) read reads older in
    let test : nat_lt at (newest es read) ≡ false = grind (arith, nat_tests) in
    rw test (newer_none es at reads (All-tail (λ r. newest es r ≤ at) read reads older))

-- what holds of each item of two lists holds of each of the first and each of the second
all_parts : {A B : Type 0} (P : B → Type 0) (f : A → B) (xs : List A) (ys : List B) → All P (map f xs ++ ys) → All (λ x. P (f x)) xs × All P ys
all_parts P f [] ys all = (All-nil (λ x. P (f x)), all)
all_parts P f (x ∷ xs) ys all =
    let rest = all_parts P f xs ys (All-tail P (f x) (map f xs ++ ys) all) in
    (All-cons (λ x. P (f x)) x xs (All-head P (f x) (map f xs ++ ys) all) rest.0, rest.1)

all_of_map : {A B : Type 0} (P : B → Type 0) (f : A → B) (xs : List A) → All P (map f xs) → All (λ x. P (f x)) xs
all_of_map P f [] all = All-nil (λ x. P (f x))
all_of_map P f (x ∷ xs) all = All-cons (λ x. P (f x)) x xs (All-head P (f x) (map f xs) all) (all_of_map P f xs (All-tail P (f x) (map f xs) all))

-- where a call has no conflict, neither what it read nor a row that it writes was written since
pub older_of_call : (es : List Entry) (call : Call) → conflict_of es call ≡ None → All (λ (m : Mark). newest es m.read ≤ call.at.0) call.marks × All (λ (w : RowWrite). newest es (Row w.id) ≤ call.at.0) call.writes
older_of_call es call none =
    let P : ReadMark → Type 0 = λ r. newest es r ≤ call.at.0 in
    let written = map (λ (w : RowWrite). Row w.id) call.writes in
    let parts = all_parts P (λ (m : Mark). m.read) call.marks written (none_newer es call.at.0 (map (λ (m : Mark). m.read) call.marks ++ written) none) in
    (parts.0, all_of_map P (λ (w : RowWrite). Row w.id) call.writes parts.1)
