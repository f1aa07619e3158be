-- A list of a table, with the own puts of a call laid over its rows.
use Rattle.std.proofs.Common.{◌≡◌, ℕ, ◌==◌, Bool, true, false, cond, List, [], ◌∷◌, Option, Some, All, refl, ap, sym, ◌∙◌, arith}
use Rattle.std.proofs.lemmas.Bool.Decides.{nat_tests}
use Rattle.std.proofs.lemmas.List.Elements.{All-head, All-tail, All-weaker, All-filter, filter_passes}
use Rattle.crash_base.specs.declared.row_id.RowId.{RowId}
use Rattle.crash_base.specs.declared.rows.RowWrite.{RowWrite}
use Rattle.crash_base.specs.RowId.{same_id, id_before}
use Rattle.crash_base.specs.Rows.{put, put_all, row_in, last_write, AreOrdered}
use Rattle.crash_base.proofs.IdOrder.{same_id-true}
use Rattle.crash_base.proofs.Ordering.{All-put, ordered-put_all, row_in-put_all}
use Rattle.journal_model.specs.Calls.{is_put, seen, listed}
use Rattle.journal_model.specs.Fits.{AreApart}
use Rattle.journal_model.specs.Snapshots.{table_rows}
use Rattle.journal_model.proofs.Standing.{not_written}

pub ordered_rows : (t : ℕ) (rows : List RowWrite) → AreOrdered rows → AreOrdered (table_rows t rows)
ordered_rows t [] ordered = tt
ordered_rows t (r ∷ rs) ordered = go (r.id.table == t) (ordered_rows t rs ordered.1)
  where
    go : (b : Bool) → AreOrdered (table_rows t rs) → AreOrdered (cond b (r ∷ table_rows t rs) (table_rows t rs))
    go true later = (All-filter (λ (s : RowWrite). s.id.table == t) (λ (s : RowWrite). id_before r.id s.id ≡ true) rs ordered.0, later)
    go false later = later

pub ordered_list : (rows writes : List RowWrite) (t : ℕ) → AreOrdered rows → AreOrdered (listed rows writes t)
ordered_list rows writes t ordered = ordered-put_all (table_rows t writes) (table_rows t rows) (ordered_rows t rows ordered)

all-put_all : (P : RowWrite → Type 0) (ws rows : List RowWrite) → All P ws → All P rows → All P (put_all ws rows)
all-put_all P [] rows new all = all
all-put_all P (w ∷ ws) rows new all = all-put_all P ws (put w rows) (All-tail P w ws new) (All-put P w rows (All-head P w ws new) all)

pub of_table : (t : ℕ) (rows : List RowWrite) → All (λ (r : RowWrite). r.id.table ≡ t) (table_rows t rows)
of_table t rows = All-weaker (λ (r : RowWrite). (r.id.table == t) ≡ true) (λ (r : RowWrite). r.id.table ≡ t) (λ r is. grind (arith, nat_tests)) (table_rows t rows) (filter_passes (λ (r : RowWrite). r.id.table == t) rows)

pub listed_of_table : (rows writes : List RowWrite) (t : ℕ) → All (λ (r : RowWrite). r.id.table ≡ t) (listed rows writes t)
listed_of_table rows writes t = all-put_all (λ (r : RowWrite). r.id.table ≡ t) (table_rows t writes) (table_rows t rows) (of_table t writes) (of_table t rows)

-- a row of another table is not this one
other_row : (r id : RowId) → (r.table == id.table) ≡ false → same_id r id ≡ false
other_row r id other = rw other refl

pub row_in-table : (rows : List RowWrite) (id : RowId) → row_in (table_rows id.table rows) id ≡ row_in rows id
row_in-table [] id = refl
row_in-table (r ∷ rs) id = go (r.id.table == id.table) refl (row_in-table rs id)
  where
    go : (b : Bool) → (r.id.table == id.table) ≡ b → row_in (table_rows id.table rs) id ≡ row_in rs id → row_in (cond b (r ∷ table_rows id.table rs) (table_rows id.table rs)) id ≡ row_in (r ∷ rs) id
    go true is later = ap (λ found. cond (same_id r.id id) (Some r.bytes) found) later
    go false is later = rw (other_row r.id id is) later

pub last_write-table : (given : Option (List ℕ)) (ws : List RowWrite) (id : RowId) → last_write given (table_rows id.table ws) id ≡ last_write given ws id
last_write-table given [] id = refl
last_write-table given (w ∷ ws) id = go (w.id.table == id.table) refl (last_write-table (cond (same_id w.id id) (Some w.bytes) given) ws id) (last_write-table given ws id)
  where
    go : (b : Bool) → (w.id.table == id.table) ≡ b → last_write (cond (same_id w.id id) (Some w.bytes) given) (table_rows id.table ws) id ≡ last_write given (w ∷ ws) id → last_write given (table_rows id.table ws) id ≡ last_write given ws id → last_write given (cond b (w ∷ table_rows id.table ws) (table_rows id.table ws)) id ≡ last_write given (w ∷ ws) id
    go true is with_it without = with_it
    go false is with_it without = without ∙ ap (λ b. last_write (cond b (Some w.bytes) given) ws id) (sym (other_row w.id id is))

-- of writes that are apart, the one of a row is its last
one_write : (given : Option (List ℕ)) (ws : List RowWrite) (id : RowId) → AreApart ws → last_write given ws id ≡ cond (is_put ws id) (row_in ws id) given
one_write given [] id apart = refl
one_write given (w ∷ ws) id apart = go (same_id w.id id) refl (one_write given ws id apart.1)
  where
    go : (b : Bool) → same_id w.id id ≡ b → last_write given ws id ≡ cond (is_put ws id) (row_in ws id) given → last_write (cond b (Some w.bytes) given) ws id ≡ cond (is_put (w ∷ ws) id) (cond b (Some w.bytes) (row_in ws id)) given
    go true here later =
        let none : is_put ws id ≡ false = ap (is_put ws) (sym (same_id-true w.id id here)) ∙ apart.0 in
        rw here (not_written (Some w.bytes) ws id none)
    go false other later = rw other later

pub list_finds : (rows writes : List RowWrite) (id : RowId) → AreApart writes → row_in (listed rows writes id.table) id ≡ seen rows writes id
list_finds rows writes id apart =
    row_in-put_all (table_rows id.table writes) (table_rows id.table rows) id
    ∙ last_write-table (row_in (table_rows id.table rows) id) writes id
    ∙ ap (λ given. last_write given writes id) (row_in-table rows id)
    ∙ one_write (row_in rows id) writes id apart
