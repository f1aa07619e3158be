-- What an action finds in all rows of the site, or the answer that refuses it.
use Rattle.std.specs.Prelude.{ℕ, Bool, if◌then◌else◌, List, [], ◌∷◌, Option, Some, None, Result, Ok, Err}
use Rattle.crash_base.specs.declared.row_id.RowId.{RowId}
use Rattle.crash_base.specs.declared.rows.RowWrite.{RowWrite}
use Rattle.crash_base.specs.Rows.{row_in}
use Rattle.journal_model.specs.declared.entry.DoneText.{DoneText}
use Rattle.action_plans.specs.declared.plan.Outcome.{Outcome}
use Rattle.auction_rows.specs.Reading.{counter_of}
use Rattle.auction_rules.specs.declared.refusal.RuleRefusal.{RuleRefusal}
use Rattle.auction_site.specs.Answers.{answered, bad_row, not_there, rule_answer}

-- a value, or the answer of a refusal
abbrev pub Found : Type 0 → Type 0
Found A = Result A DoneText

-- the second finding, by the value of the first; a refusal stays
abbrev pub and_then : {A B : Type 0} → Found A → (A → Found B) → Found B
and_then (Err done) f = Err done
and_then (Ok x) f = f x

-- the same, as `do` writes it
infixl 10 ◌>>=◌
abbrev pub ◌>>=◌ : {A B : Type 0} → Found A → (A → Found B) → Found B
found >>= f = and_then found f

-- refused where the test holds
abbrev pub refused_if : Bool → DoneText → Found (Unit {0})
refused_if test done = if test then Err done else Ok tt

-- refused where a rule refuses
abbrev pub refused_by : Option RuleRefusal → Found (Unit {0})
refused_by None = Ok tt
refused_by (Some refusal) = Err (rule_answer refusal)

-- the row that bytes spell; refused where they spell none
abbrev pub spelled : {T : Type 0} → RowId → Option T → Found T
spelled id None = Err (bad_row id)
spelled id (Some row) = Ok row

-- the row that these bytes spell, if there are any; refused with this answer where there are none
abbrev pub spelled_or : {T : Type 0} → (List ℕ → Option T) → RowId → DoneText → Option (List ℕ) → Found T
spelled_or spells id missing None = Err missing
spelled_or spells id missing (Some bytes) = spelled id (spells bytes)

-- the row of an id among rows; refused with this answer where it is missing
abbrev pub row_or : {T : Type 0} → List RowWrite → (List ℕ → Option T) → RowId → DoneText → Found T
row_or rows spells id missing = spelled_or spells id missing (row_in rows id)

-- the row of an id among rows; refused where it is missing
abbrev pub the_row : {T : Type 0} → List RowWrite → (List ℕ → Option T) → RowId → Found T
the_row rows spells id = row_or rows spells id not_there

-- no bytes; refused with this answer where they spell a row, and else as a bad row
abbrev pub absent : {T : Type 0} → (List ℕ → Option T) → RowId → DoneText
    → Option (List ℕ) → Found (Unit {0})
absent spells id there None = Ok tt
absent spells id there (Some bytes) = spelled id (spells bytes) >>= λ row. Err there

-- no row of an id is among rows; refused with this answer where it is there
abbrev pub no_row : {T : Type 0} → List RowWrite → (List ℕ → Option T) → RowId → DoneText
    → Found (Unit {0})
no_row rows spells id there = absent spells id there (row_in rows id)

-- the count that these bytes spell, if there are any, and else 0
abbrev pub counted : RowId → Option (List ℕ) → Found ℕ
counted id None = Ok 0
counted id (Some bytes) = spelled id (counter_of bytes) >>= λ counter. Ok counter.count

-- a counter among rows, which is 0 where its row is missing
abbrev pub the_counter : List RowWrite → RowId → Found ℕ
the_counter rows id = counted id (row_in rows id)

-- all of these, or the first refusal
abbrev pub collected : {A : Type 0} → List (Found A) → Found (List A)
collected [] = Ok []
collected (found ∷ others) = found >>= λ x. collected others >>= λ xs. Ok (x ∷ xs)

-- what comes of an action, refused or not: a refusal writes nothing
abbrev pub finished : Found Outcome → Outcome
finished (Ok outcome) = outcome
finished (Err done) = answered done
