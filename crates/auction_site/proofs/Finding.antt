-- What is known of what a rule of the site found.
use Rattle.std.proofs.Common.{◌≡◌, ℕ, Bool, true, false, List, Option, Some, None, Ok, Err, refl, option_and_then}
use Rattle.crash_base.specs.declared.row_id.RowId.{RowId}
use Rattle.crash_base.specs.declared.rows.RowWrite.{RowWrite}
use Rattle.crash_base.specs.Rows.{put_all, row_in}
use Rattle.journal_model.specs.declared.entry.DoneText.{DoneText}
use Rattle.action_plans.specs.declared.plan.Outcome.{Outcome}
use Rattle.auction_rows.specs.declared.rows.CounterRow.{CounterRow}
use Rattle.auction_rows.specs.Reading.{counter_of}
use Rattle.auction_rules.specs.declared.refusal.RuleRefusal.{RuleRefusal}
use Rattle.auction_site.specs.Coherent.{row_at, count_of, IsCoherent}
use Rattle.auction_site.specs.Found.{Found, and_then, refused_if, refused_by, spelled, spelled_or, row_or, counted, the_counter, finished}

-- what comes of this leaves rows coherent
abbrev pub Leaves : List RowWrite → Found Outcome → Type 0
Leaves rows found = IsCoherent (put_all (finished found).writes rows)

-- a refusal leaves rows as they are
pub then_leaves : {A : Type 0} (rows : List RowWrite) → IsCoherent rows → (found : Found A) (g : A → Found Outcome)
    → ((x : A) → found ≡ Ok x → Leaves rows (g x)) → Leaves rows (and_then found g)
then_leaves rows coherent (Ok x) g later = later x refl
then_leaves rows coherent (Err done) g later = coherent

-- a test that does not refuse
pub if_found : (test : Bool) (done : DoneText) (x : Unit {0}) → refused_if test done ≡ Ok x → test ≡ false
if_found true done x is = absurd (cc)
if_found false done x is = refl

-- a rule that does not refuse
pub by_found : (refusal : Option RuleRefusal) (x : Unit {0}) → refused_by refusal ≡ Ok x → refusal ≡ None
by_found None x is = refl
by_found (Some refusal) x is = absurd (cc)

spelled_found : {T : Type 0} (id : RowId) (row : Option T) (x : T) → spelled id row ≡ Ok x → row ≡ Some x
spelled_found id None x is = absurd (cc)
spelled_found id (Some row) x is = cc

spelled_or_found : {T : Type 0} (spells : List ℕ → Option T) (id : RowId) (missing : DoneText) (bytes : Option (List ℕ)) (x : T)
    → spelled_or spells id missing bytes ≡ Ok x → option_and_then spells bytes ≡ Some x
spelled_or_found spells id missing None x is = absurd (cc)
spelled_or_found spells id missing (Some bytes) x is = spelled_found id (spells bytes) x is

-- a row that is found is the row at its id
pub row_found : {T : Type 0} (rows : List RowWrite) (spells : List ℕ → Option T) (id : RowId) (missing : DoneText) (x : T)
    → row_or rows spells id missing ≡ Ok x → row_at rows spells id ≡ Some x
row_found rows spells id missing x is = spelled_or_found spells id missing (row_in rows id) x is

counted_found : (id : RowId) (bytes : Option (List ℕ)) (n : ℕ) → counted id bytes ≡ Ok n → count_of (option_and_then counter_of bytes) ≡ n
counted_found id None n is = cc
counted_found id (Some bytes) n is = by_row (counter_of bytes) is
  where
    by_row : (row : Option CounterRow) → and_then (spelled id row) (λ counter. Ok counter.count) ≡ Ok n → count_of row ≡ n
    by_row None e = absurd (cc)
    by_row (Some counter) e = cc

-- a counter that is found is the count at its id
pub counter_found : (rows : List RowWrite) (id : RowId) (n : ℕ) → the_counter rows id ≡ Ok n → count_of (row_at rows counter_of id) ≡ n
counter_found rows id n is = counted_found id (row_in rows id) n is
