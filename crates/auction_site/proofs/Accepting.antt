-- What an action finds is found step by step.
use Rattle.std.proofs.Common.{◌≡◌, ◌⊎◌, ℕ, Bool, true, false, List, Option, Some, None, Ok, Err, refl, ap, ◌∙◌, inl, inr, option_and_then}
use Rattle.crash_base.specs.declared.row_id.RowId.{RowId}
use Rattle.crash_base.specs.declared.rows.RowWrite.{RowWrite}
use Rattle.crash_base.specs.Rows.{row_in}
use Rattle.journal_model.specs.declared.entry.DoneText.{DoneText}
use Rattle.auction_rows.specs.declared.rows.CounterRow.{CounterRow}
use Rattle.auction_rows.specs.Reading.{counter_of}
use Rattle.auction_rules.specs.declared.refusal.RuleRefusal.{RuleRefusal}
use Rattle.auction_site.specs.Coherent.{row_at}
use Rattle.auction_site.specs.Found.{Found, and_then, refused_if, refused_by, spelled, spelled_or, row_or, absent, no_row, counted, the_counter}
use Rattle.auction_site.specs.Accepted.{Counts}

-- what is found was found of what was found before
pub split_found : {A B : Type 0} (found : Found A) (g : A → Found B) (y : B) → and_then found g ≡ Ok y
    → (x : A) × (found ≡ Ok x) × (g x ≡ Ok y)
split_found (Ok x) g y is = (x, refl, is)
split_found (Err done) g y is = absurd (cc)

-- and the other way round
pub then_found : {A B : Type 0} (found : Found A) (g : A → Found B) (x : A) (y : Found B) → found ≡ Ok x → g x ≡ y → and_then found g ≡ y
then_found found g x y is next = ap (λ f. and_then f g) is ∙ next

-- a refusal refuses all
pub then_refused : {A B : Type 0} (found : Found A) (g : A → Found B) (done : DoneText) → found ≡ Err done → and_then found g ≡ Err done
then_refused found g done is = ap (λ f. and_then f g) is

pub if_passes : (test : Bool) (done : DoneText) → test ≡ false → refused_if test done ≡ Ok tt
if_passes test done is = rw is refl

pub if_refuses : (test : Bool) (done : DoneText) → test ≡ true → refused_if test done ≡ Err done
if_refuses test done is = rw is refl

pub by_passes : (refusal : Option RuleRefusal) → refusal ≡ None → refused_by refusal ≡ Ok tt
by_passes refusal is = ap refused_by is

spelled_or_is : {T : Type 0} (spells : List ℕ → Option T) (id : RowId) (missing : DoneText) (bytes : Option (List ℕ)) (x : T)
    → option_and_then spells bytes ≡ Some x → spelled_or spells id missing bytes ≡ Ok x
spelled_or_is spells id missing None x is = absurd (cc)
spelled_or_is spells id missing (Some bytes) x is = ap (spelled id) is

-- the row at an id is found
pub row_is_found : {T : Type 0} (rows : List RowWrite) (spells : List ℕ → Option T) (id : RowId) (missing : DoneText) (x : T)
    → row_at rows spells id ≡ Some x → row_or rows spells id missing ≡ Ok x
row_is_found rows spells id missing x is = spelled_or_is spells id missing (row_in rows id) x is

none_found : {T : Type 0} (spells : List ℕ → Option T) (id : RowId) (there : DoneText) (bytes : Option (List ℕ)) (x : Unit {0})
    → absent spells id there bytes ≡ Ok x → bytes ≡ None
none_found spells id there None x is = refl
none_found {T = T} spells id there (Some bytes) x is = by_row (spells bytes) is
  where
    by_row : (row : Option T) → and_then (spelled id row) (λ row. Err there) ≡ Ok x → Some bytes ≡ None
    by_row None e = absurd (cc)
    by_row (Some row) e = absurd (cc)

-- where no row was found, there is none
pub no_row_found : {T : Type 0} (rows : List RowWrite) (spells : List ℕ → Option T) (id : RowId) (there : DoneText) (x : Unit {0})
    → no_row rows spells id there ≡ Ok x → row_in rows id ≡ None
no_row_found rows spells id there x is = none_found spells id there (row_in rows id) x is

pub no_row_is_found : {T : Type 0} (rows : List RowWrite) (spells : List ℕ → Option T) (id : RowId) (there : DoneText)
    → row_in rows id ≡ None → no_row rows spells id there ≡ Ok tt
no_row_is_found rows spells id there is = ap (absent spells id there) is

-- a count that is found, by the bytes of its row
abbrev CountsBytes : Option (List ℕ) → ℕ → Type 0
CountsBytes bytes n = ((bytes ≡ None) × (n ≡ 0)) ⊎ ((counter : CounterRow) × (option_and_then counter_of bytes ≡ Some counter) × (counter.count ≡ n))

counted_counts : (id : RowId) (bytes : Option (List ℕ)) (n : ℕ) → counted id bytes ≡ Ok n → CountsBytes bytes n
counted_counts id None n is = inl (refl, cc)
counted_counts id (Some bytes) n is = by_row (counter_of bytes) refl is
  where
    by_row : (row : Option CounterRow) → counter_of bytes ≡ row → and_then (spelled id row) (λ counter. Ok counter.count) ≡ Ok n → CountsBytes (Some bytes) n
    by_row None at e = absurd (cc)
    by_row (Some counter) at e = inr (counter, at, cc)

-- the count that a counter tells is found
pub counter_counts : (rows : List RowWrite) (id : RowId) (n : ℕ) → the_counter rows id ≡ Ok n → Counts rows id n
counter_counts rows id n is = counted_counts id (row_in rows id) n is

counts_counted : (id : RowId) (bytes : Option (List ℕ)) (n : ℕ) → CountsBytes bytes n → counted id bytes ≡ Ok n
counts_counted id None n (inl none) = cc
counts_counted id None n (inr some) = let at = some.1 in absurd (cc)
counts_counted id (Some bytes) n (inl none) = let at = none.0 in absurd (cc)
counts_counted id (Some bytes) n (inr some) = ap (λ row. and_then (spelled id row) (λ counter. Ok counter.count)) some.1 ∙ ap Ok some.2

pub counter_is_found : (rows : List RowWrite) (id : RowId) (n : ℕ) → Counts rows id n → the_counter rows id ≡ Ok n
counter_is_found rows id n counts = counts_counted id (row_in rows id) n counts
