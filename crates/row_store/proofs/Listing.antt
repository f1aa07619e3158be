-- The rows that the index has of a table, and all, are those that a scan of the writes finds.
use Rattle.std.proofs.Common.{◌≡◌, ℕ, ◌+◌, ◌==◌, ◌||◌, Bool, true, false, cond, List, [], ◌∷◌, Option, Some, None, refl, sym, ap, ◌∙◌, subst}
use Rattle.std.specs.BTreeMap as tree
use Rattle.std.specs.BTreeMap.{is_at}
use Rattle.std.specs.BTreeMap.Range.{range_contains}
use Rattle.std.specs.Global.{Vec}
use Rattle.std.specs.List.{list_any}
use Rattle.std.specs.Map.{lookup, keys_of}
use Rattle.std.specs.Option.{is_some, option_to_list}
use Rattle.std.specs.declared.ops.Bound.TheVariants.{Included, Excluded, Unbounded}
use Rattle.std.proofs.lemmas.Bool.{eqb-true}
use Rattle.std.proofs.lemmas.List.Elements.{All-head, All-tail, All-weaker}
use Rattle.std.proofs.lemmas.Map.Entries.{lookup-filter-keys}
use Rattle.std.proofs.lemmas.Map.Made.{is_some-lookup}
use Rattle.crash_base.specs.declared.row_id.RowId.{RowId}
use Rattle.crash_base.specs.declared.rows.RowWrite.{RowWrite}
use Rattle.crash_base.specs.RowId.{same_id}
use Rattle.crash_base.specs.Rows.{put_all, row_in, last_write}
use Rattle.crash_base.proofs.IdOrder.{same_id-true, same_id_comm}
use Rattle.crash_base.proofs.Ordering.{ordered-put_all, row_in-put_all, same_from_row_in}
use Rattle.journal_model.specs.declared.entry.ReadMark.TheVariants.{Row}
use Rattle.journal_model.specs.Snapshots.{table_rows}
use Rattle.journal_model.proofs.Adding.{last_write-append}
use Rattle.journal_model.proofs.Listing.{ordered_rows, of_table as rows_of_table, row_in-table}
use Rattle.row_store.specs.declared.index.Index.{Index}
use Rattle.row_store.specs.declared.index.RowKey.{RowKey}
use Rattle.row_store.specs.declared.index.Spot.{Spot}
use Rattle.row_store.specs.declared.noted.Noted.{Noted}
use Rattle.row_store.specs.Rows.{writes_before, row_before, list_before, all_before}
use Rattle.row_store.specs.Index.{ids, key_of, first_key, of_table, of_all, AreIn, spots_of, spots_written, IsIndexOf, AreIndexed, row_bytes, write_seen, rows_seen, RiseFrom, EachRises}
use Rattle.row_store.proofs.Finding.{last_row, last_row_bytes, last_row_own, row_found}
use Rattle.row_store.proofs.KeyOrder.{id_of, key_is, table_is}
use Rattle.row_store.proofs.Newest.{spots_rise}
use Rattle.row_store.proofs.Tables.{no_other_row}

-- the bytes of a row that is seen at a place, if it has a list of places
abbrev bytes_seen : List RowWrite → List Noted → ℕ → Option (Vec Spot) → Option (List ℕ)
bytes_seen base noted at o = row_bytes (write_seen base noted at (spots_of o))

if_some : (own : Bool) (base : List RowWrite) (noted : List Noted) (at : ℕ) (o : Option (Vec Spot)) → cond (is_some (cond own o None)) (bytes_seen base noted at o) None ≡ cond own (bytes_seen base noted at o) None
if_some true base noted at None = refl
if_some true base noted at (Some spots) = refl
if_some false base noted at o = refl

or_false : (b : Bool) → (b || false) ≡ b
or_false true = refl
or_false false = refl

or_order : (x own b : Bool) → (x || (own || b)) ≡ ((own || x) || b)
or_order true true b = refl
or_order true false b = refl
or_order false true b = refl
or_order false false b = refl

-- a row that is seen is the last write of its id, and other ids keep theirs
step : (own b : Bool) (o : Option RowWrite) (v : Option (List ℕ)) (id : RowId) → ((w : RowWrite) → o ≡ Some w → same_id w.id id ≡ own) → (own ≡ true → v ≡ row_bytes o)
    → last_write (cond b v None) (option_to_list o) id ≡ cond (own || b) v None
step true true None v id ids_own is = refl
step true false None v id ids_own is = sym (is refl)
step true b (Some w) v id ids_own is = rw (ids_own w refl) (sym (is refl))
step false b None v id ids_own is = refl
step false b (Some w) v id ids_own is = rw (ids_own w refl) refl

-- what the index has of a key is where its row was written
written : (base : List RowWrite) (noted : List Noted) (index : Index) (e : RowKey × Vec Spot) → IsIndexOf index base noted → tree.get ids index.rows e.0 ≡ Some e.1 → e.1.items ≡ spots_written base noted (Row (id_of e.0))
written base noted index e is get = sym (ap spots_of get) ∙ is (Row (id_of e.0))

-- and the row that is seen is of its id
seen_own : (base : List RowWrite) (noted : List Noted) (at : ℕ) (index : Index) (e : RowKey × Vec Spot) (w : RowWrite) → IsIndexOf index base noted → tree.get ids index.rows e.0 ≡ Some e.1
    → write_seen base noted at e.1.items ≡ Some w → same_id w.id (id_of e.0) ≡ true
seen_own base noted at index e w is get seen =
    let id = id_of e.0 in
    let ws = writes_before (record { base = base; noted = noted }) at in
    let found : write_seen base noted at e.1.items ≡ last_row None ws id = ap (write_seen base noted at) (written base noted index e is get) ∙ row_found base noted at id in
    last_row_own None ws id w (λ u none. absurd (cc)) (sym found ∙ seen)

of_own : (a b k : RowId) (own : Bool) → same_id a k ≡ true → same_id b k ≡ own → same_id a b ≡ own
of_own a b k own ak bk = ap (λ i. same_id i b) (same_id-true a k ak) ∙ same_id_comm k b ∙ bk

get_own : (id : RowId) (index : Index) (e : RowKey × Vec Spot) → same_id id (id_of e.0) ≡ true → tree.get ids index.rows e.0 ≡ Some e.1 → tree.get ids index.rows (key_of id) ≡ Some e.1
get_own id index e same get = ap (λ i. tree.get ids index.rows (key_of i)) (same_id-true id (id_of e.0) same) ∙ get

-- the last write of an id among the rows that are seen is the one that is seen of it
listed : (base : List RowWrite) (noted : List Noted) (at : ℕ) (index : Index) (id : RowId) (b : Bool) (es : List (RowKey × Vec Spot)) → IsIndexOf index base noted → AreIn index.rows es
    → last_write (cond b (bytes_seen base noted at (tree.get ids index.rows (key_of id))) None) (rows_seen base noted at es) id
    ≡ cond (list_any (is_at (ids (key_of id))) (keys_of es) || b) (bytes_seen base noted at (tree.get ids index.rows (key_of id))) None
listed base noted at index id b [] is are = refl
listed base noted at index id b (e ∷ es) is are =
    let In : RowKey × Vec Spot → Type 0 = λ e. tree.get ids index.rows e.0 ≡ Some e.1 in
    let get : tree.get ids index.rows e.0 ≡ Some e.1 = All-head In e es are in
    let v = bytes_seen base noted at (tree.get ids index.rows (key_of id)) in
    let own = is_at (ids (key_of id)) e.0 in
    let others = list_any (is_at (ids (key_of id))) (keys_of es) in
    let o = write_seen base noted at e.1.items in
    let ids_own : (w : RowWrite) → o ≡ Some w → same_id w.id id ≡ own = λ w seen. of_own w.id id (id_of e.0) own (seen_own base noted at index e w is get seen) (sym (key_is id e.0)) in
    let bytes : own ≡ true → v ≡ row_bytes o = λ yes. ap (bytes_seen base noted at) (get_own id index e (sym (key_is id e.0) ∙ yes) get) in
    last_write-append (cond b v None) (option_to_list o) (rows_seen base noted at es) id
    ∙ ap (λ given. last_write given (rows_seen base noted at es) id) (step own b o v id ids_own bytes)
    ∙ listed base noted at index id (own || b) es is (All-tail In e es are)
    ∙ ap (λ c. cond c v None) (or_order others own b)

-- the row of an id among those that are seen, where they are those that pass a test
row_listed : (own : Bool) (base : List RowWrite) (noted : List Noted) (at : ℕ) (index : Index) (id : RowId) (es : List (RowKey × Vec Spot)) → IsIndexOf index base noted → AreIn index.rows es
    → lookup (is_at (ids (key_of id))) es ≡ cond own (tree.get ids index.rows (key_of id)) None
    → row_in (put_all (rows_seen base noted at es) []) id ≡ cond own (row_before (record { base = base; noted = noted }) at id) None
row_listed own base noted at index id es is are look =
    let there = tree.get ids index.rows (key_of id) in
    let test = is_at (ids (key_of id)) in
    let any : (list_any test (keys_of es) || false) ≡ is_some (cond own there None) = or_false (list_any test (keys_of es)) ∙ sym (is_some-lookup test es) ∙ ap is_some look in
    let ws = writes_before (record { base = base; noted = noted }) at in
    let value : bytes_seen base noted at there ≡ row_before (record { base = base; noted = noted }) at id =
    ap (λ spots. row_bytes (write_seen base noted at spots)) (is (Row id)) ∙ ap row_bytes (row_found base noted at id) ∙ last_row_bytes None ws id in
    row_in-put_all (rows_seen base noted at es) [] id
    ∙ listed base noted at index id false es is are
    ∙ ap (λ c. cond c (bytes_seen base noted at there) None) any
    ∙ if_some own base noted at there
    ∙ ap (λ v. cond own v None) value

-- of a table
look_table : (t : ℕ) (own : Bool) (index : Index) (id : RowId) → (id.table == t) ≡ own → lookup (is_at (ids (key_of id))) (of_table t index.rows) ≡ cond own (tree.get ids index.rows (key_of id)) None
look_table t own index id is =
    let test = is_at (ids (key_of id)) in
    let passes : (k : RowKey) → test k ≡ true → range_contains ids (Included (first_key t)) (Excluded (first_key (t + 1))) k ≡ own =
    λ k yes. table_is t k ∙ ap (λ (i : RowId). i.table == t) (sym (same_id-true id (id_of k) (sym (key_is id k) ∙ yes))) ∙ is in
    lookup-filter-keys test (range_contains ids (Included (first_key t)) (Excluded (first_key (t + 1)))) own passes index.rows.entries

table_row : (t : ℕ) (own : Bool) (base : List RowWrite) (noted : List Noted) (at : ℕ) (index : Index) (id : RowId) → (id.table == t) ≡ own → IsIndexOf index base noted → AreIn index.rows (of_table t index.rows)
    → row_in (put_all (rows_seen base noted at (of_table t index.rows)) []) id ≡ row_in (list_before (record { base = base; noted = noted }) t at) id
table_row t true base noted at index id own is are =
    let ws = writes_before (record { base = base; noted = noted }) at in
    let same : id.table ≡ t = eqb-true id.table t own in
    row_listed true base noted at index id (of_table t index.rows) is are (look_table t true index id own)
    ∙ sym (row_in-put_all ws [] id) ∙ sym (row_in-table (put_all ws []) id) ∙ ap (λ n. row_in (table_rows n (put_all ws [])) id) same
table_row t false base noted at index id other is are =
    let ws = writes_before (record { base = base; noted = noted }) at in
    row_listed false base noted at index id (of_table t index.rows) is are (look_table t false index id other)
    ∙ sym (no_other_row t (table_rows t (put_all ws [])) id other (rows_of_table t (put_all ws [])))

-- the rows of a table at a place
pub table_listed : (base : List RowWrite) (noted : List Noted) (t at : ℕ) (index : Index) → IsIndexOf index base noted → AreIn index.rows (of_table t index.rows)
    → put_all (rows_seen base noted at (of_table t index.rows)) [] ≡ list_before (record { base = base; noted = noted }) t at
table_listed base noted t at index is are =
    let ws = writes_before (record { base = base; noted = noted }) at in
    let seen = rows_seen base noted at (of_table t index.rows) in
    same_from_row_in (put_all seen []) (table_rows t (put_all ws [])) (ordered-put_all seen [] tt) (ordered_rows t (put_all ws []) (ordered-put_all ws [] tt))
    (λ id. table_row t (id.table == t) base noted at index id refl is are)

-- all rows at a place
pub all_listed : (base : List RowWrite) (noted : List Noted) (at : ℕ) (index : Index) → IsIndexOf index base noted → AreIn index.rows (of_all index.rows)
    → put_all (rows_seen base noted at (of_all index.rows)) [] ≡ all_before (record { base = base; noted = noted }) at
all_listed base noted at index is are =
    let ws = writes_before (record { base = base; noted = noted }) at in
    let seen = rows_seen base noted at (of_all index.rows) in
    let look : (id : RowId) → lookup (is_at (ids (key_of id))) (of_all index.rows) ≡ tree.get ids index.rows (key_of id) =
    λ id. lookup-filter-keys (is_at (ids (key_of id))) (range_contains ids Unbounded Unbounded) true (λ k yes. refl) index.rows.entries in
    same_from_row_in (put_all seen []) (put_all ws []) (ordered-put_all seen [] tt) (ordered-put_all ws [] tt)
    (λ id. row_listed true base noted at index id (of_all index.rows) is are (look id) ∙ sym (row_in-put_all ws [] id))

-- the places of each row that the index has rise
pub each_rises : (base : List RowWrite) (noted : List Noted) (index : Index) (es : List (RowKey × Vec Spot)) → AreIndexed base noted index → AreIn index.rows es → EachRises es
each_rises base noted index es indexed are =
    All-weaker (λ (e : RowKey × Vec Spot). tree.get ids index.rows e.0 ≡ Some e.1) (λ (e : RowKey × Vec Spot). RiseFrom 0 e.1.items)
    (λ e get. subst (RiseFrom 0) (sym (written base noted index e indexed.index get)) (spots_rise base noted (Row (id_of e.0)) indexed.notes.rising)) es are
