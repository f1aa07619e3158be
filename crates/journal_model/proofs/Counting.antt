-- What an entry counts for.
use Rattle.std.proofs.Common.{◌≡◌, ℕ, ◌+◌, List, [], ◌∷◌, ◌++◌, length, None, Some, refl, ap, arith}
use Rattle.std.proofs.lemmas.List.Sums.{sum_by-append}
use Rattle.crash_base.specs.declared.rows.RowWrite.{RowWrite}
use Rattle.journal_model.specs.declared.entry.CommitEntry.{CommitEntry}
use Rattle.journal_model.specs.declared.entry.Entry.TheVariants.{Commit}
use Rattle.journal_model.specs.declared.entry.Mark.{Mark}
use Rattle.journal_model.specs.declared.entry.SessionChange.TheVariants.{Keep, Set}
use Rattle.journal_model.specs.Limits.{value_bytes, entry_bytes, action_bytes}

-- nothing
pub counts_nothing : (e : CommitEntry) → e.reads ≡ [] → e.writes ≡ [] → e.action ≡ None → entry_bytes (Commit e) ≡ 0
counts_nothing e reads writes action = rw (reads, writes, action) refl

-- a mark more
pub counts_mark : (e : CommitEntry) (m : Mark) → entry_bytes (Commit (record e { reads = e.reads ++ m ∷ [] })) ≡ entry_bytes (Commit e) + value_bytes m.value
counts_mark e m = omega (arith, sum_by-append (λ (m : Mark). value_bytes m.value) e.reads (m ∷ []))

-- a write more
pub counts_write : (e : CommitEntry) (w : RowWrite) → entry_bytes (Commit (record e { writes = e.writes ++ w ∷ [] })) ≡ entry_bytes (Commit e) + length w.bytes
counts_write e w = omega (arith, sum_by-append (λ (w : RowWrite). length w.bytes) e.writes (w ∷ []))

-- an action that leaves the session
pub counts_action : (e : CommitEntry) (text page : List ℕ) (status : ℕ) → e.action ≡ None → entry_bytes (Commit (record e { action = Some (record { text = text; done = record { status = status; page = page; session = Keep } }) })) ≡ entry_bytes (Commit e) + (length text + length page)
counts_action e text page status none = omega (arith, ap action_bytes none)

-- and one that sets it
pub counts_session : (e : CommitEntry) (text page value : List ℕ) (status : ℕ) → e.action ≡ None → entry_bytes (Commit (record e { action = Some (record { text = text; done = record { status = status; page = page; session = Set value } }) })) ≡ entry_bytes (Commit e) + (length text + length page + length value)
counts_session e text page value status none = omega (arith, ap action_bytes none)
