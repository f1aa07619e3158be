-- Which rows may be loaded, row by row.
use Rattle.std.proofs.Common.{◌≡◌, ℕ, zero, suc, ◌+◌, ◌<◌, ◌≤◌, Bool, true, false, if◌then◌else◌, List, [], ◌∷◌, ◌++◌, length, take, drop, Option, Some, None, IfSome, slice_get, get_or, All, refl, sym, ap, ◌∙◌, subst, add-one, arith}
use Rattle.std.specs.Int.{from_be_bytes, w32}
use Rattle.std.specs.List.{list_any}
use Rattle.std.proofs.Math.Seq.{drop-cons, take-suc}
use Rattle.std.proofs.lemmas.Bool.Decides.{nat_tests}
use Rattle.std.proofs.lemmas.Grind.{common_steps}
use Rattle.std.proofs.lemmas.List.Elements.{All-nil, All-cons}
use Rattle.std.proofs.lemmas.Option.{slice_get-get_or}
use Rattle.call_ticket.specs.Within.{IsShortWrite}
use Rattle.crash_base.specs.declared.row_id.RowId.{RowId}
use Rattle.crash_base.specs.declared.rows.RowWrite.{RowWrite}
use Rattle.crash_base.specs.declared.rows.TheConstants.{MAX_ROW_BYTES}
use Rattle.crash_base.specs.BigEndian.{big_endian_number}
use Rattle.crash_base.specs.RowId.{same_id, id_before}
use Rattle.crash_base.specs.Rows.{AreOrdered, row_in}
use Rattle.crash_base.proofs.IdOrder.{id_before_other}
use Rattle.journal_model.proofs.Places.{all_there}
use Rattle.container_core.specs.Start.{boot_id, is_bad, first_bad_after}

-- of rows in order, none before another has its id
no_earlier : (rows : List RowWrite) (i : ℕ) (r : RowWrite) → AreOrdered rows → slice_get rows i ≡ Some r → list_any (λ (e : RowWrite). same_id e.id r.id) (take i rows) ≡ false
no_earlier [] zero r ordered at = refl
no_earlier [] (suc i) r ordered at = refl
no_earlier (x ∷ xs) zero r ordered at = refl
no_earlier (x ∷ xs) (suc i) r ordered at =
    let before : id_before x.id r.id ≡ true = all_there (λ (s : RowWrite). id_before x.id s.id ≡ true) xs i r ordered.0 at in
    rw (id_before_other x.id r.id before) (no_earlier xs i r ordered.1 at)

pub new_in_order : (rows : List RowWrite) (i : ℕ) (r : RowWrite) → i < length rows → r ≡ get_or rows i r → AreOrdered rows → list_any (λ (e : RowWrite). same_id e.id r.id) (take i rows) ≡ false
new_in_order rows i r within here ordered =
    no_earlier rows i r ordered (slice_get-get_or rows i r within ∙ ap (λ (x : RowWrite). Some x) (sym here))

-- the row at a place, before those after it
bad_turn : (rows : List RowWrite) (i : ℕ) (r : RowWrite) → i < length rows → r ≡ get_or rows i r
    → first_bad_after (take i rows) (drop i rows) ≡ (if is_bad (take i rows) r then Some r.id else first_bad_after (take (i + 1) rows) (drop (i + 1) rows))
bad_turn rows i r within here =
    let dropped : drop i rows ≡ r ∷ drop (i + 1) rows = rw (add-one) (drop-cons rows i r within ∙ ap (λ (x : RowWrite). x ∷ drop (suc i) rows) (sym here)) in
    let taken : take (i + 1) rows ≡ take i rows ++ r ∷ [] = rw (add-one) (take-suc rows i r within ∙ ap (λ (x : RowWrite). take i rows ++ x ∷ []) (sym here)) in
    ap (first_bad_after (take i rows)) dropped ∙ ap (λ earlier. if is_bad (take i rows) r then Some r.id else first_bad_after earlier (drop (i + 1) rows)) (sym taken)

pub bad_here : (rows : List RowWrite) (i : ℕ) (r : RowWrite) → i < length rows → r ≡ get_or rows i r → is_bad (take i rows) r ≡ true → first_bad_after (take i rows) (drop i rows) ≡ Some r.id
bad_here rows i r within here bad = bad_turn rows i r within here ∙ ap (λ b. if b then Some r.id else first_bad_after (take (i + 1) rows) (drop (i + 1) rows)) bad

pub bad_past : (rows : List RowWrite) (i : ℕ) (r : RowWrite) → i < length rows → r ≡ get_or rows i r → is_bad (take i rows) r ≡ false → first_bad_after (take i rows) (drop i rows) ≡ first_bad_after (take (i + 1) rows) (drop (i + 1) rows)
bad_past rows i r within here good = bad_turn rows i r within here ∙ ap (λ b. if b then Some r.id else first_bad_after (take (i + 1) rows) (drop (i + 1) rows)) good

-- the first of good rows is good, and so are those after it
pub good_first : (id : RowId) (later : Option RowId) (bad : Bool) → (if bad then Some id else later) ≡ None → (bad ≡ false) × (later ≡ None)
good_first id later false good = (refl, good)
good_first id later true good = cc

-- a good row is short, and one of the boot's number has 4 bytes
pub short_if_good : (earlier : List RowWrite) (r : RowWrite) → is_bad earlier r ≡ false → length r.bytes ≤ MAX_ROW_BYTES
short_if_good earlier r good = grind (arith, nat_tests)

four_if_good : (earlier : List RowWrite) (r : RowWrite) → is_bad earlier r ≡ false → same_id r.id boot_id ≡ true → length r.bytes ≡ 4
four_if_good earlier r good same = grind (arith, nat_tests)

-- good rows are short
pub good_short : (earlier rows : List RowWrite) → first_bad_after earlier rows ≡ None → All IsShortWrite rows
good_short earlier [] good = All-nil IsShortWrite
good_short earlier (r ∷ rs) good =
    let both = good_first r.id (first_bad_after (earlier ++ r ∷ []) rs) (is_bad earlier r) good in
    All-cons IsShortWrite r rs (short_if_good earlier r both.0) (good_short (earlier ++ r ∷ []) rs both.1)

number_step : (earlier : List RowWrite) (r : RowWrite) (found : Option (List ℕ)) (bytes : List ℕ) (same : Bool) → is_bad earlier r ≡ false → same_id r.id boot_id ≡ same
    → (found ≡ Some bytes → length bytes ≡ 4) → (if same then Some r.bytes else found) ≡ Some bytes → length bytes ≡ 4
number_step earlier r found bytes false good other later is = later is
number_step earlier r found bytes true good same later is =
    let P : Option (List ℕ) → Type 0 = λ o. IfSome o (λ bs. length bs ≡ 4) in
    subst P is (four_if_good earlier r good same)

-- the row of the boot's number has 4 bytes, where all rows are good
pub good_number : (earlier rows : List RowWrite) (bytes : List ℕ) → first_bad_after earlier rows ≡ None → row_in rows boot_id ≡ Some bytes → length bytes ≡ 4
good_number earlier [] bytes good found = cc
good_number earlier (r ∷ rs) bytes good found =
    let both = good_first r.id (first_bad_after (earlier ++ r ∷ []) rs) (is_bad earlier r) good in
    number_step earlier r (row_in rs boot_id) bytes (same_id r.id boot_id) both.0 refl (good_number (earlier ++ r ∷ []) rs bytes both.1) found

-- four bytes are read as their number
pub number_is : (bytes : List ℕ) → length bytes ≡ 4 → from_be_bytes w32 (take 4 bytes) ≡ big_endian_number bytes
number_is [] four = cc
number_is (a ∷ []) four = cc
number_is (a ∷ b ∷ []) four = cc
number_is (a ∷ b ∷ c ∷ []) four = cc
number_is (a ∷ b ∷ c ∷ d ∷ []) four = grind (arith, common_steps)
number_is (a ∷ b ∷ c ∷ d ∷ e ∷ rest) four = absurd (grind (arith))
