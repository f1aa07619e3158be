-- Rows are loaded exactly where each may be, and their ids differ.
use Rattle.std.proofs.Common.{◌≡◌, ◌↔◌, ℕ, zero, suc, ◌≤◌, nat_lt, ◌==◌, ◌&&◌, ◌||◌, not, Bool, true, false, if◌then◌else◌, List, [], ◌∷◌, ◌++◌, length, Some, None, slice_get, All, refl, sym, ap, ◌∙◌, arith}
use Rattle.std.specs.List.{list_any}
use Rattle.std.proofs.lemmas.Bool.{eqb-true, or_parts, false_from_ne_true}
use Rattle.std.proofs.lemmas.Bool.Decides.{nat_tests}
use Rattle.std.proofs.lemmas.List.Elements.{All-nil, All-cons, All-head, All-tail}
use Rattle.std.proofs.lemmas.List.Folds.{list_any-append}
use Rattle.crash_base.specs.declared.row_id.RowId.{RowId}
use Rattle.crash_base.specs.declared.row_id.TheConstants.{SERVICE_TABLE}
use Rattle.crash_base.specs.declared.rows.RowWrite.{RowWrite}
use Rattle.crash_base.specs.declared.rows.TheConstants.{MAX_ROW_BYTES}
use Rattle.crash_base.specs.RowId.{same_id}
use Rattle.crash_base.proofs.IdOrder.{same_id-true, same_id-self}
use Rattle.boot_core.proofs.Ordering.{some_same}
use Rattle.container_core.specs.Start.{is_strange, is_bad, first_bad_after, first_bad, IsLoadable, AreLoadable, IsFirstBad}
use Rattle.container_core.proofs.GoodRows.{good_first, short_if_good}

-- whether one of these rows has the id
abbrev has : List RowWrite → RowId → Bool
has rows id = list_any (λ (e : RowWrite). same_id e.id id) rows

-- one row that is not bad
alone : (earlier : List RowWrite) (r : RowWrite) → is_bad earlier r ≡ false → (has earlier r.id ≡ false) × (is_strange r ≡ false)
alone earlier r good = or_parts (has earlier r.id) (is_strange r) (or_parts (nat_lt MAX_ROW_BYTES (length r.bytes)) (has earlier r.id || is_strange r) good).1

own_key : (r : RowWrite) → is_strange r ≡ false → r.id.table ≡ SERVICE_TABLE → (r.id.key ≡ 0) × (length r.bytes ≡ 4)
own_key r ordinary own = (grind (arith, nat_tests), grind (arith, nat_tests))

loadable_if_good : (earlier : List RowWrite) (r : RowWrite) → is_bad earlier r ≡ false → IsLoadable r
loadable_if_good earlier r good = record {
  short = short_if_good earlier r good;
  key = λ own. (own_key r (alone earlier r good).1 own).0;
  number = λ own. (own_key r (alone earlier r good).1 own).1;
}

good_each : (earlier rows : List RowWrite) → first_bad_after earlier rows ≡ None → All IsLoadable rows
good_each earlier [] good = All-nil IsLoadable
good_each earlier (r ∷ rs) good =
    let both = good_first r.id (first_bad_after (earlier ++ r ∷ []) rs) (is_bad earlier r) good in
    All-cons IsLoadable r rs (loadable_if_good earlier r both.0) (good_each (earlier ++ r ∷ []) rs both.1)

-- an id among more rows
has_more : (earlier : List RowWrite) (r : RowWrite) (id : RowId) → has (earlier ++ r ∷ []) id ≡ (has earlier id || (same_id r.id id || false))
has_more earlier r id = list_any-append (λ (e : RowWrite). same_id e.id id) earlier (r ∷ [])

-- of good rows, none has an id that came earlier
good_new : (earlier rows : List RowWrite) (j : ℕ) (b : RowWrite) → first_bad_after earlier rows ≡ None → slice_get rows j ≡ Some b → has earlier b.id ≡ false
good_new earlier [] j b good there = absurd (cc)
good_new earlier (r ∷ rs) zero b good there =
    let both = good_first r.id (first_bad_after (earlier ++ r ∷ []) rs) (is_bad earlier r) good in
    ap (λ (x : RowWrite). has earlier x.id) (sym (some_same r b there)) ∙ (alone earlier r both.0).0
good_new earlier (r ∷ rs) (suc j) b good there =
    let both = good_first r.id (first_bad_after (earlier ++ r ∷ []) rs) (is_bad earlier r) good in
    (or_parts (has earlier b.id) (same_id r.id b.id || false) (sym (has_more earlier r b.id) ∙ good_new (earlier ++ r ∷ []) rs j b both.1 there)).0

-- nor has one the id of the row before them
good_other : (earlier : List RowWrite) (r : RowWrite) (rs : List RowWrite) (j : ℕ) (b : RowWrite) → first_bad_after (earlier ++ r ∷ []) rs ≡ None → slice_get rs j ≡ Some b → r.id ≡ b.id → ⊥
good_other earlier r rs j b good there same =
    let none : has earlier b.id || (same_id r.id b.id || false) ≡ false = sym (has_more earlier r b.id) ∙ good_new (earlier ++ r ∷ []) rs j b good there in
    let differ : same_id r.id b.id ≡ false = (or_parts (same_id r.id b.id) false (or_parts (has earlier b.id) (same_id r.id b.id || false) none).1).0 in
    let one : same_id r.id b.id ≡ true = ap (λ id. same_id id b.id) same ∙ same_id-self b.id in
    absurd (cc)

good_apart : (earlier rows : List RowWrite) → first_bad_after earlier rows ≡ None → (i j : ℕ) (a b : RowWrite) → slice_get rows i ≡ Some a → slice_get rows j ≡ Some b → a.id ≡ b.id → i ≡ j
good_apart earlier [] good i j a b here there same = absurd (cc)
good_apart earlier (r ∷ rs) good zero zero a b here there same = refl
good_apart earlier (r ∷ rs) good zero (suc j) a b here there same =
    let both = good_first r.id (first_bad_after (earlier ++ r ∷ []) rs) (is_bad earlier r) good in
    absurd (good_other earlier r rs j b both.1 there (ap (λ (x : RowWrite). x.id) (some_same r a here) ∙ same))
good_apart earlier (r ∷ rs) good (suc i) zero a b here there same =
    let both = good_first r.id (first_bad_after (earlier ++ r ∷ []) rs) (is_bad earlier r) good in
    absurd (good_other earlier r rs i a both.1 here (ap (λ (x : RowWrite). x.id) (some_same r b there) ∙ sym same))
good_apart earlier (r ∷ rs) good (suc i) (suc j) a b here there same =
    let both = good_first r.id (first_bad_after (earlier ++ r ∷ []) rs) (is_bad earlier r) good in
    ap suc (good_apart (earlier ++ r ∷ []) rs both.1 i j a b here there same)

-- and back
ordinary : (r : RowWrite) → IsLoadable r → is_strange r ≡ false
ordinary r l = go (r.id.table == SERVICE_TABLE) refl
  where
    go : (own : Bool) → (r.id.table == SERVICE_TABLE) ≡ own → (own && not ((r.id.key == 0) && (length r.bytes == 4))) ≡ false
    go false is = refl
    go true is = let own = eqb-true r.id.table SERVICE_TABLE is in rw (l.key own, l.number own) refl

not_long : (r : RowWrite) → IsLoadable r → nat_lt MAX_ROW_BYTES (length r.bytes) ≡ false
not_long r l = let short : length r.bytes ≤ MAX_ROW_BYTES = l.short in grind (arith, nat_tests)

not_bad : (earlier : List RowWrite) (r : RowWrite) → IsLoadable r → has earlier r.id ≡ false → is_bad earlier r ≡ false
not_bad earlier r l new = rw (not_long r l, new, ordinary r l) refl

good_from : (earlier rows : List RowWrite) → All IsLoadable rows → ((j : ℕ) (b : RowWrite) → slice_get rows j ≡ Some b → has earlier b.id ≡ false)
    → ((i j : ℕ) (a b : RowWrite) → slice_get rows i ≡ Some a → slice_get rows j ≡ Some b → a.id ≡ b.id → i ≡ j) → first_bad_after earlier rows ≡ None
good_from earlier [] each new apart = refl
good_from earlier (r ∷ rs) each new apart =
    let differ : (j : ℕ) (b : RowWrite) → slice_get rs j ≡ Some b → same_id r.id b.id ≡ false = λ j b there.
    false_from_ne_true (same_id r.id b.id) (λ is. let never : zero ≡ suc j = apart zero (suc j) r b refl there (same_id-true r.id b.id is) in absurd (cc)) in
    let newer : (j : ℕ) (b : RowWrite) → slice_get rs j ≡ Some b → has (earlier ++ r ∷ []) b.id ≡ false = λ j b there.
    has_more earlier r b.id ∙ rw (new (suc j) b there, differ j b there) refl in
    let later = good_from (earlier ++ r ∷ []) rs (All-tail IsLoadable r rs each) newer (λ i j a b here there same. omega (arith, apart (suc i) (suc j) a b here there same)) in
    ap (λ bad. if bad then Some r.id else first_bad_after (earlier ++ r ∷ []) rs) (not_bad earlier r (All-head IsLoadable r rs each) (new zero r refl)) ∙ later

pub good_is : (rows : List RowWrite) → (first_bad rows ≡ None) ↔ AreLoadable rows
good_is rows = (λ good. record { each = good_each [] rows good; apart = good_apart [] rows good }, λ l. good_from [] rows l.each (λ j b there. refl) l.apart)

-- where a row is bad, rows before it are good, and with it they are not
abbrev Found : List RowWrite → List RowWrite → RowId → Type 0
Found earlier rows id =
    (before : List RowWrite) × (r : RowWrite) × (after : List RowWrite) × (rows ≡ before ++ r ∷ after) × (r.id ≡ id)
    × (first_bad_after earlier before ≡ None) × (first_bad_after earlier (before ++ r ∷ []) ≡ Some id)

bad_from : (earlier rows : List RowWrite) (id : RowId) → first_bad_after earlier rows ≡ Some id → Found earlier rows id
bad_from earlier [] id bad = absurd (cc)
bad_from earlier (r ∷ rs) id bad = go (is_bad earlier r) refl bad (bad_from (earlier ++ r ∷ []) rs id)
  where
    go : (b : Bool) → is_bad earlier r ≡ b → (if b then Some r.id else first_bad_after (earlier ++ r ∷ []) rs) ≡ Some id → (first_bad_after (earlier ++ r ∷ []) rs ≡ Some id → Found (earlier ++ r ∷ []) rs id) → Found earlier (r ∷ rs) id
    go true is h rest =
        ([], r, rs, refl, some_same r.id id h, refl, ap (λ b. if b then Some r.id else None) is ∙ h)
    go false is h rest =
        let later = rest h in (
          r ∷ later.0,
          later.1,
          later.2,
          ap (λ (xs : List RowWrite). r ∷ xs) later.3,
          later.4,
          ap (λ b. if b then Some r.id else first_bad_after (earlier ++ r ∷ []) later.0) is ∙ later.5,
          ap (λ b. if b then Some r.id else first_bad_after (earlier ++ r ∷ []) (later.0 ++ later.1 ∷ [])) is ∙ later.6,
        )

pub first_is_bad : (rows : List RowWrite) (id : RowId) → first_bad rows ≡ Some id → IsFirstBad rows id
first_is_bad rows id bad =
    let found = bad_from [] rows id bad in
    record {
      before = found.0;
      row = found.1;
      after = found.2;
      parts = found.3;
      is = found.4;
      good = (good_is found.0).0 found.5;
      bad = λ l. let none : first_bad (found.0 ++ found.1 ∷ []) ≡ None = (good_is (found.0 ++ found.1 ∷ [])).1 l in let some : first_bad (found.0 ++ found.1 ∷ []) ≡ Some id = found.6 in absurd (cc);
    }
