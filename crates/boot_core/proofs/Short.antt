-- No row of a boot is too long.
use Rattle.std.proofs.Common.{◌≡◌, ℕ, zero, suc, ◌≤◌, Bool, true, false, cond, List, [], ◌∷◌, take, Option, Some, None, All, slice_get, refl, sym, ap, subst, arith}
use Rattle.std.specs.List.{flat_map}
use Rattle.std.proofs.lemmas.List.Elements.{All-nil, All-append, All-head, All-tail, All-weaker}
use Rattle.crash_base.specs.declared.row_id.RowId.{RowId}
use Rattle.crash_base.specs.declared.rows.RowWrite.{RowWrite}
use Rattle.crash_base.specs.declared.rows.TheConstants.{MAX_ROW_BYTES}
use Rattle.crash_base.specs.RowId.{same_id}
use Rattle.crash_base.specs.Rows.{last_write, row_in}
use Rattle.call_ticket.specs.Within.{IsShortWrite}
use Rattle.journal_model.specs.declared.entry.CommitEntry.{CommitEntry}
use Rattle.journal_model.specs.declared.entry.Entry.{Entry}
use Rattle.journal_model.specs.declared.entry.Entry.TheVariants.{Commit, Down, Up}
use Rattle.journal_model.specs.Fits.{IsWrite}
use Rattle.journal_model.specs.Legal.{IsLegal}
use Rattle.journal_model.specs.Limits.{value_bytes}
use Rattle.journal_model.specs.Rows.{writes_of, all_writes}
use Rattle.journal_model.specs.Snapshots.{snapshot}
use Rattle.journal_model.proofs.Reading.{value_found}

short_last : (given : Option (List ℕ)) (ws : List RowWrite) (id : RowId) → value_bytes given ≤ MAX_ROW_BYTES → All IsShortWrite ws → value_bytes (last_write given ws id) ≤ MAX_ROW_BYTES
short_last given [] id fits short = fits
short_last given (w ∷ ws) id fits short = go (same_id w.id id) (λ v within. short_last v ws id within (All-tail IsShortWrite w ws short))
  where
    go : (b : Bool) → ((v : Option (List ℕ)) → value_bytes v ≤ MAX_ROW_BYTES → value_bytes (last_write v ws id) ≤ MAX_ROW_BYTES) → value_bytes (last_write (cond b (Some w.bytes) given) ws id) ≤ MAX_ROW_BYTES
    go true later = later (Some w.bytes) (All-head IsShortWrite w ws short)
    go false later = later given fits

short_flat : (es : List Entry) → ((i : ℕ) (e : CommitEntry) → slice_get es i ≡ Some (Commit e) → All IsWrite e.writes) → All IsShortWrite (flat_map writes_of es)
short_flat [] each = All-nil IsShortWrite
short_flat (e ∷ es) each = All-append IsShortWrite (writes_of e) (flat_map writes_of es) (here e refl) (short_flat es (λ i c is. each (suc i) c is))
  where
    here : (x : Entry) → e ≡ x → All IsShortWrite (writes_of x)
    here (Commit c) is = All-weaker IsWrite IsShortWrite (λ w write. write.short) c.writes (each 0 c (ap (λ y. Some y) is))
    here (Down s) is = All-nil IsShortWrite
    here (Up s) is = All-nil IsShortWrite

taken_none : {A : Type 0} (k i : ℕ) (x : A) → slice_get (take k []) i ≡ Some x → slice_get [] i ≡ Some x
taken_none zero i x is = is
taken_none (suc k) i x is = is

taken : {A : Type 0} (xs : List A) (k i : ℕ) (x : A) → slice_get (take k xs) i ≡ Some x → slice_get xs i ≡ Some x
taken [] k i x is = taken_none k i x is
taken (y ∷ ys) zero i x is = absurd (cc)
taken (y ∷ ys) (suc k) zero x is = is
taken (y ∷ ys) (suc k) (suc i) x is = taken ys k i x is

pub short_row : (base : List RowWrite) (es : List Entry) (at : ℕ) (id : RowId) → All IsShortWrite base → IsLegal base es → value_bytes (row_in (snapshot base es at) id) ≤ MAX_ROW_BYTES
short_row base es at id short legal =
    let rest : All IsShortWrite (flat_map writes_of (take at es)) = short_flat (take at es) (λ i c is. (legal.each i (Commit c) (taken es at i (Commit c) is)).whole.writes) in
    let P : Option (List ℕ) → Type 0 = λ v. value_bytes v ≤ MAX_ROW_BYTES in
    subst P (sym (value_found base (take at es) id)) (short_last None (all_writes base (take at es)) id (omega arith) (All-append IsShortWrite base (flat_map writes_of (take at es)) short rest))
