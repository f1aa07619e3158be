-- The newest place of what was read is the one after the last entry that writes it.
use Rattle.std.proofs.Common.{◌≡◌, ℕ, zero, suc, ◌+◌, ◌<◌, ◌≤◌, max, Bool, true, false, cond, List, [], ◌∷◌, length, Some, refl, arith, slice_get, subst}
use Rattle.journal_model.specs.declared.entry.Entry.{Entry}
use Rattle.journal_model.specs.declared.entry.ReadMark.{ReadMark}
use Rattle.journal_model.specs.Rows.{writes_of}
use Rattle.journal_model.specs.Snapshots.{writes_read, newest_from, newest}

-- an entry at the newest place or later does not write it
not_written_from : (i : ℕ) (es : List Entry) (read : ReadMark) (k : ℕ) (e : Entry) → slice_get es k ≡ Some e → newest_from i es read ≤ i + k → writes_read read (writes_of e) ≡ false
not_written_from i [] read k e there old = absurd (cc)
not_written_from i (x ∷ es) read zero e there old =
    let same : x ≡ e = cc in
    go (writes_read read (writes_of e)) refl (subst (λ x. newest_from i (x ∷ es) read ≤ i + 0) same old)
  where
    go : (b : Bool) → writes_read read (writes_of e) ≡ b → max (cond b (i + 1) 0) (newest_from (i + 1) es read) ≤ i + 0 → writes_read read (writes_of e) ≡ false
    go true is late = absurd (omega (arith))
    go false is late = is
not_written_from i (x ∷ es) read (suc k) e there old = not_written_from (i + 1) es read k e there (omega (arith, old))

pub not_written_later : (es : List Entry) (read : ReadMark) (place : ℕ) (e : Entry) → slice_get es place ≡ Some e → newest es read ≤ place → writes_read read (writes_of e) ≡ false
not_written_later es read place e there old = not_written_from 0 es read place e there (omega (arith, old))

pub newest_within_from : (i : ℕ) (es : List Entry) (read : ReadMark) → newest_from i es read ≤ i + length es
newest_within_from i [] read = omega arith
newest_within_from i (e ∷ es) read = go (writes_read read (writes_of e)) (newest_within_from (i + 1) es read)
  where
    go : (b : Bool) → newest_from (i + 1) es read ≤ i + 1 + length es → max (cond b (i + 1) 0) (newest_from (i + 1) es read) ≤ i + suc (length es)
    go true later = omega (arith)
    go false later = omega (arith)

-- an entry that writes it, the one before the newest place, among entries the first of which is at i
record IsLast (i : ℕ) (es : List Entry) (read : ReadMark) : Type 0 where
  pub index : ℕ
  pub entry : Entry
  pub far : newest_from i es read ≡ i + index + 1
  pub there : slice_get es index ≡ Some entry
  pub writing : writes_read read (writes_of entry) ≡ true

later_wins : (i : ℕ) (es : List Entry) (read : ReadMark) (b : Bool) (k : ℕ) → newest_from (i + 1) es read ≡ i + 1 + k + 1 → max (cond b (i + 1) 0) (newest_from (i + 1) es read) ≡ i + suc k + 1
later_wins i es read true k far = omega (arith, far)
later_wins i es read false k far = omega (arith, far)

last_from : (i : ℕ) (es : List Entry) (read : ReadMark) → 0 < newest_from i es read → IsLast i es read
last_from i [] read some = absurd (omega arith)
last_from i (e ∷ es) read some = go (newest_from (i + 1) es read) refl (writes_read read (writes_of e)) refl some (last_from (i + 1) es read)
  where
    go : (n : ℕ) → newest_from (i + 1) es read ≡ n → (b : Bool) → writes_read read (writes_of e) ≡ b → 0 < max (cond b (i + 1) 0) n → (0 < n → IsLast (i + 1) es read) → IsLast i (e ∷ es) read
    go zero none true here above later = record { index = 0; entry = e; far = rw (none, here) (omega arith); there = refl; writing = here }
    go zero none false here above later = absurd (omega arith)
    go (suc n) found b here above later =
        let next = later (omega arith) in
        let far : newest_from i (e ∷ es) read ≡ i + suc next.index + 1 = later_wins i es read (writes_read read (writes_of e)) next.index next.far in
        record { index = suc next.index; entry = next.entry; far = far; there = next.there; writing = next.writing }

pub last_writes : (es : List Entry) (read : ReadMark) → 0 < newest es read → (place : ℕ) × (e : Entry) × (newest es read ≡ place + 1) × (slice_get es place ≡ Some e) × (writes_read read (writes_of e) ≡ true)
last_writes es read some = let last = last_from 0 es read some in (last.index, last.entry, omega (arith, last.far), last.there, last.writing)
