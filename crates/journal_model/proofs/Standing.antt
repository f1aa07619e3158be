-- What was not written since a place is as it was there.
use Rattle.std.proofs.Common.{◌≡◌, ℕ, ◌+◌, ◌≤◌, ◌==◌, max, Bool, true, false, cond, List, [], ◌∷◌, ◌++◌, length, take, drop, Option, refl, ap, sym, subst, ◌∙◌, arith, append_assoc}
use Rattle.std.specs.Prelude.{All}
use Rattle.std.proofs.lemmas.Grind.{common_steps, flat_map-append}
use Rattle.std.proofs.lemmas.List.{take-append-drop, length-take-le}
use Rattle.std.proofs.lemmas.List.Elements.{All-weaker}
use Rattle.std.proofs.lemmas.List.Folds.{list_any-append}
use Rattle.std.specs.List.{flat_map}
use Rattle.crash_base.specs.declared.row_id.RowId.{RowId}
use Rattle.crash_base.specs.declared.rows.RowWrite.{RowWrite}
use Rattle.crash_base.specs.RowId.{same_id, id_before}
use Rattle.crash_base.specs.Rows.{put, put_all, row_in, last_write}
use Rattle.crash_base.proofs.IdOrder.{same_id-true}
use Rattle.crash_base.proofs.Ordering.{put_all-append, row_in-put_all}
use Rattle.journal_model.specs.declared.entry.CommitEntry.{CommitEntry}
use Rattle.journal_model.specs.declared.entry.Entry.{Entry}
use Rattle.journal_model.specs.declared.entry.Mark.{Mark}
use Rattle.journal_model.specs.declared.entry.ReadMark.{ReadMark}
use Rattle.journal_model.specs.declared.entry.ReadMark.TheVariants.{Row, Table}
use Rattle.journal_model.specs.Legal.{IsCurrent}
use Rattle.journal_model.specs.Rows.{writes_of, all_writes, rows_after}
use Rattle.journal_model.specs.Snapshots.{snapshot, table_rows, covers, writes_read, newest_from, newest, AgreeOn}

newest_from-append : (i : ℕ) (xs ys : List Entry) (m : ReadMark) → newest_from i (xs ++ ys) m ≡ max (newest_from i xs m) (newest_from (i + length xs) ys m)
newest_from-append i [] ys m = grind (arith, common_steps)
newest_from-append i (x ∷ xs) ys m = grind (arith, common_steps, newest_from-append (i + 1) xs ys m)

-- entries that leave the newest place where they begin do not write it
unwritten : (i : ℕ) (es : List Entry) (m : ReadMark) → newest_from i es m ≤ i → writes_read m (flat_map writes_of es) ≡ false
unwritten i [] m old = refl
unwritten i (e ∷ es) m old =
    let later : newest_from (i + 1) es m ≤ i + 1 = grind (arith, common_steps) in
    let here : writes_read m (writes_of e) ≡ false = grind (arith, common_steps) in
    let rest : writes_read m (flat_map writes_of es) ≡ false = unwritten (i + 1) es m later in
    list_any-append (λ (w : RowWrite). covers m w.id) (writes_of e) (flat_map writes_of es) ∙ rw (here, rest) refl

pub not_written : (found : Option (List ℕ)) (ws : List RowWrite) (id : RowId) → writes_read (Row id) ws ≡ false → last_write found ws id ≡ found
not_written found [] id none = refl
not_written found (w ∷ ws) id none = grind (arith, common_steps, not_written found ws id)

-- a row of another table changes nothing of this one
other_table : (t : ℕ) (w : RowWrite) (rows : List RowWrite) → (w.id.table == t) ≡ false → table_rows t (put w rows) ≡ table_rows t rows
other_table t w [] other = rw other refl
other_table t w (r ∷ rs) other = go (other_table t w rs other) (id_before r.id w.id) (same_id r.id w.id) refl
  where
    go : table_rows t (put w rs) ≡ table_rows t rs → (before same : Bool) → same_id r.id w.id ≡ same → table_rows t (cond before (r ∷ put w rs) (cond same (w ∷ rs) (w ∷ r ∷ rs))) ≡ table_rows t (r ∷ rs)
    go later true same is = ap (λ rest. cond (r.id.table == t) (r ∷ rest) rest) later
    go later false true is =
        let its : (r.id.table == t) ≡ false = ap (λ (id : RowId). id.table == t) (same_id-true r.id w.id is) ∙ other in
        rw (other, its) refl
    go later false false is = rw other refl

other_tables : (t : ℕ) (ws rows : List RowWrite) → writes_read (Table t) ws ≡ false → table_rows t (put_all ws rows) ≡ table_rows t rows
other_tables t [] rows none = refl
other_tables t (w ∷ ws) rows none =
    let here : (w.id.table == t) ≡ false = grind (arith, common_steps) in
    let rest : writes_read (Table t) ws ≡ false = grind (arith, common_steps) in
    other_tables t ws (put w rows) rest ∙ other_table t w rows here

agree : (ws rows : List RowWrite) (m : ReadMark) → writes_read m ws ≡ false → AgreeOn rows (put_all ws rows) m
agree ws rows (Row id) none = sym (row_in-put_all ws rows id ∙ not_written (row_in rows id) ws id none)
agree ws rows (Table t) none = sym (other_tables t ws rows none)

rows_after-append : (base : List RowWrite) (es more : List Entry) → rows_after base (es ++ more) ≡ put_all (flat_map writes_of more) (rows_after base es)
rows_after-append base es more =
    let parts : all_writes base (es ++ more) ≡ all_writes base es ++ flat_map writes_of more = ap (λ ws. base ++ ws) (flat_map-append writes_of es more) ∙ sym (append_assoc base (flat_map writes_of es) (flat_map writes_of more)) in
    ap (λ ws. put_all ws []) parts ∙ put_all-append (all_writes base es) (flat_map writes_of more) []

pub unwritten_since : (base : List RowWrite) (es : List Entry) (at : ℕ) (m : ReadMark) → at ≤ length es → newest es m ≤ at → AgreeOn (snapshot base es at) (rows_after base es) m
unwritten_since base es at m within old =
    let parts : take at es ++ drop at es ≡ es = take-append-drop at es in
    let short : length (take at es) ≡ at = length-take-le at es within in
    let split : newest es m ≡ max (newest (take at es) m) (newest_from (0 + length (take at es)) (drop at es) m) = ap (λ z. newest z m) (sym parts) ∙ newest_from-append 0 (take at es) (drop at es) m in
    let start : 0 + length (take at es) ≡ at = omega (arith, short) in
    let whole : newest es m ≡ max (newest (take at es) m) (newest_from at (drop at es) m) = split ∙ ap (λ k. max (newest (take at es) m) (newest_from k (drop at es) m)) start in
    let later : newest_from at (drop at es) m ≤ at = omega (arith, whole, old) in
    let P : List RowWrite → Type 0 = λ rows. AgreeOn (snapshot base es at) rows m in
    subst P (sym (rows_after-append base (take at es) (drop at es)) ∙ ap (rows_after base) parts) (agree (flat_map writes_of (drop at es)) (snapshot base es at) m (unwritten at (drop at es) m later))

pub current_reads : (base : List RowWrite) (es : List Entry) (e : CommitEntry) → IsCurrent base es e → All (λ (m : Mark). AgreeOn (snapshot base es e.at.0) (rows_after base es) m.read) e.reads
current_reads base es e current = All-weaker (λ (m : Mark). newest es m.read ≤ e.at.0) (λ (m : Mark). AgreeOn (snapshot base es e.at.0) (rows_after base es) m.read) (λ m old. unwritten_since base es e.at.0 m.read current.at old) e.reads current.reads
