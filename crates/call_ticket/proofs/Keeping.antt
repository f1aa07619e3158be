-- A write that is kept, and a row that is looked up, by recursion, against the place that a search found.
use Rattle.std.proofs.Common.{◌≡◌, ℕ, suc, ◌+◌, ◌<◌, ◌≤◌, Bool, true, false, not, cond, ◌||◌, List, [], ◌∷◌, length, set, get_or, Some, None, refl, ap, sym, ◌∙◌, arith}
use Rattle.std.specs.List.{position_or_len, position}
use Rattle.crash_base.specs.declared.row_id.RowId.{RowId}
use Rattle.crash_base.specs.declared.rows.RowWrite.{RowWrite}
use Rattle.crash_base.specs.RowId.{same_id}
use Rattle.crash_base.specs.Rows.{row_in}
use Rattle.crash_base.proofs.Positions.{position-some, position-none}
use Rattle.journal_model.specs.Calls.{is_put, with_write}

-- the test of the search
abbrev is_of : RowId → RowWrite → Bool
is_of id x = same_id x.id id

with_write-found : (xs : List RowWrite) (w : RowWrite) → position_or_len (is_of w.id) xs < length xs → with_write xs w ≡ set xs (position_or_len (is_of w.id) xs) w
with_write-found [] w h = absurd (omega arith)
with_write-found (x ∷ xs) w h =
    let p = position_or_len (is_of w.id) xs in
    let M : Bool → Type 0 = λ b. cond (not b) (1 + p) 0 < suc (length xs) → cond b (w ∷ xs) (x ∷ with_write xs w) ≡ set (x ∷ xs) (cond (not b) (1 + p) 0) w in
    let go : (b : Bool) → M b = elim [
      | true ↦ λ k. refl
      | false ↦ λ k.
          let e : 1 + p ≡ suc p = omega arith in
          ap (λ ys. x ∷ ys) (with_write-found xs w (omega arith)) ∙ ap (λ n. set (x ∷ xs) n w) (sym e)
    ] in
    go (is_of w.id x) h

row_in-found : (xs : List RowWrite) (id : RowId) (d : RowWrite) → position_or_len (is_of id) xs < length xs → row_in xs id ≡ Some (get_or xs (position_or_len (is_of id) xs) d).bytes
row_in-found [] id d h = absurd (omega arith)
row_in-found (x ∷ xs) id d h =
    let p = position_or_len (is_of id) xs in
    let M : Bool → Type 0 = λ b. cond (not b) (1 + p) 0 < suc (length xs) → cond b (Some x.bytes) (row_in xs id) ≡ Some (get_or (x ∷ xs) (cond (not b) (1 + p) 0) d).bytes in
    let go : (b : Bool) → M b = elim [
      | true ↦ λ k. refl
      | false ↦ λ k.
          let e : 1 + p ≡ suc p = omega arith in
          row_in-found xs id d (omega arith) ∙ ap (λ n. Some (get_or (x ∷ xs) n d).bytes) (sym e)
    ] in
    go (is_of id x) h

not_put : (xs : List RowWrite) (id : RowId) → length xs ≤ position_or_len (is_of id) xs → is_put xs id ≡ false
not_put [] id h = refl
not_put (x ∷ xs) id h =
    let p = position_or_len (is_of id) xs in
    let M : Bool → Type 0 = λ b. suc (length xs) ≤ cond (not b) (1 + p) 0 → (b || is_put xs id) ≡ false in
    let go : (b : Bool) → M b = elim [
      | true ↦ λ k. absurd (omega arith)
      | false ↦ λ k. not_put xs id (omega arith)
    ] in
    go (is_of id x) h

row_in-none : (xs : List RowWrite) (id : RowId) → is_put xs id ≡ false → row_in xs id ≡ None
row_in-none [] id new = refl
row_in-none (x ∷ xs) id new =
    let M : Bool → Type 0 = λ b. (b || is_put xs id) ≡ false → cond b (Some x.bytes) (row_in xs id) ≡ None in
    let go : (b : Bool) → M b = elim [
      | true ↦ λ k. cc
      | false ↦ λ k. row_in-none xs id k
    ] in
    go (is_of id x) new

-- the same, for what the search on the writes answered
pub kept_over : (xs ys : List RowWrite) (w : RowWrite) (i : ℕ) → ys ≡ xs → Some i ≡ position (is_of w.id) ys → set xs i w ≡ with_write xs w
kept_over xs ys w i e h =
    let k : position (is_of w.id) xs ≡ Some i = ap (position (is_of w.id)) (sym e) ∙ sym h in
    let r = position-some (is_of w.id) xs i k in
    ap (λ n. set xs n w) r.0 ∙ sym (with_write-found xs w r.1)

pub kept_last : (xs ys : List RowWrite) (id : RowId) → ys ≡ xs → None ≡ position (is_of id) ys → is_put xs id ≡ false
kept_last xs ys id e h =
    let k : position (is_of id) xs ≡ None = ap (position (is_of id)) (sym e) ∙ sym h in
    not_put xs id (position-none (is_of id) xs k)

pub row_found : (xs : List RowWrite) (id : RowId) (i : ℕ) (d : RowWrite) → Some i ≡ position (is_of id) xs → Some (get_or xs i d).bytes ≡ row_in xs id
row_found xs id i d h =
    let r = position-some (is_of id) xs i (sym h) in
    ap (λ n. Some (get_or xs n d).bytes) r.0 ∙ sym (row_in-found xs id d r.1)

pub row_not_found : (xs : List RowWrite) (id : RowId) → None ≡ position (is_of id) xs → None ≡ row_in xs id
row_not_found xs id h = sym (row_in-none xs id (not_put xs id (position-none (is_of id) xs (sym h))))
