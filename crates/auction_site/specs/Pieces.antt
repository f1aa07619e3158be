-- Pieces of plans: reads of rows, and refusals.
use Rattle.std.specs.Prelude.{ℕ, Bool, if◌then◌else◌, List, [], ◌∷◌, Option, Some, None}
use Rattle.crash_base.specs.declared.row_id.RowId.{RowId}
use Rattle.crash_base.specs.declared.rows.RowWrite.{RowWrite}
use Rattle.journal_model.specs.declared.entry.DoneText.{DoneText}
use Rattle.journal_model.specs.declared.entry.ReadMark.TheVariants.{Row, Table}
use Rattle.call_ticket.specs.declared.next.Answer.{Answer}
use Rattle.call_ticket.specs.declared.next.Answer.TheVariants as answer
use Rattle.action_plans.specs.Plans.{Plan, Asks, Refuses, Gives, ◌>>=◌}
use Rattle.auction_rows.specs.Reading.{counter_of}
use Rattle.auction_rules.specs.declared.refusal.RuleRefusal.{RuleRefusal}
use Rattle.auction_site.specs.Answers.{bad_row, not_there, rule_answer}

-- the bytes that the answer to a read of a row tells
abbrev pub row_answer : Answer → Option (List ℕ)
row_answer (answer.Row bytes) = bytes
row_answer (answer.Rows rows) = None
row_answer answer.Entered = None
row_answer answer.Kept = None
row_answer answer.Left = None

-- the rows that the answer to a list of a table tells
abbrev pub table_answer : Answer → List RowWrite
table_answer (answer.Rows rows) = rows
table_answer (answer.Row bytes) = []
table_answer answer.Entered = []
table_answer answer.Kept = []
table_answer answer.Left = []

-- refused where the test holds
unfoldable pub refuses_if : Bool → DoneText → Plan (Unit {0})
refuses_if test done = if test then Refuses done else Gives tt

-- refused where a rule refuses
unfoldable pub refuses_by : Option RuleRefusal → Plan (Unit {0})
refuses_by None = Gives tt
refuses_by (Some refusal) = Refuses (rule_answer refusal)

-- the row that bytes spell; refused where they spell none
unfoldable pub decoded : {T : Type 0} → RowId → Option T → Plan T
decoded id None = Refuses (bad_row id)
decoded id (Some row) = Gives row

-- the row that these bytes spell, if there are any; refused with this answer where there are none
unfoldable pub decoded_or : {T : Type 0} → (List ℕ → Option T) → RowId → DoneText → Option (List ℕ) → Plan T
decoded_or spells id missing None = Refuses missing
decoded_or spells id missing (Some bytes) = decoded id (spells bytes)

-- the row of an id; refused with this answer where it is missing
unfoldable pub asks_row_or : {T : Type 0} → (List ℕ → Option T) → RowId → DoneText → Plan T
asks_row_or spells id missing = Asks (Row id) (λ a. decoded_or spells id missing (row_answer a))

-- the row of an id; refused where it is missing
abbrev pub asks_row : {T : Type 0} → (List ℕ → Option T) → RowId → Plan T
asks_row spells id = asks_row_or spells id not_there

-- no bytes; refused with this answer where they spell a row, and else as a bad row
unfoldable pub none_decoded : {T : Type 0} → (List ℕ → Option T) → RowId → DoneText
    → Option (List ℕ) → Plan (Unit {0})
none_decoded spells id there None = Gives tt
none_decoded spells id there (Some bytes) = decoded id (spells bytes) >>= λ row. Refuses there

-- no row of an id; refused with this answer where it is there
unfoldable pub asks_no_row : {T : Type 0} → (List ℕ → Option T) → RowId → DoneText → Plan (Unit {0})
asks_no_row spells id there = Asks (Row id) (λ a. none_decoded spells id there (row_answer a))

-- the count that these bytes spell, if there are any, and else 0
unfoldable pub count_decoded : RowId → Option (List ℕ) → Plan ℕ
count_decoded id None = Gives 0
count_decoded id (Some bytes) = decoded id (counter_of bytes) >>= λ counter. Gives counter.count

-- a counter, which is 0 where its row is missing
unfoldable pub asks_counter : RowId → Plan ℕ
asks_counter id = Asks (Row id) (λ a. count_decoded id (row_answer a))

-- the rows of a table
unfoldable pub asks_table : ℕ → Plan (List RowWrite)
asks_table table = Asks (Table table) (λ a. Gives (table_answer a))

-- a plan for each of these, one after the other
unfoldable pub asks_each : {A B : Type 0} → (A → Plan B) → List A → Plan (List B)
asks_each plan [] = Gives []
asks_each plan (x ∷ xs) = do
  y ← plan x
  ys ← asks_each plan xs
  Gives (y ∷ ys)
