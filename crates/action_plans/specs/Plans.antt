-- What an action reads, and what comes of it.
use Rattle.std.specs.Prelude.{◌≡◌, List, [], ◌∷◌, Result, Ok, Err}
use Rattle.crash_base.specs.declared.rows.RowWrite.{RowWrite}
use Rattle.crash_base.specs.Rows.{row_in}
use Rattle.journal_model.specs.declared.entry.DoneText.{DoneText}
use Rattle.journal_model.specs.declared.entry.ReadMark.{ReadMark}
use Rattle.journal_model.specs.declared.entry.ReadMark.TheVariants.{Row, Table}
use Rattle.journal_model.specs.Calls.{with_write}
use Rattle.journal_model.specs.Snapshots.{table_rows}
use Rattle.call_ticket.specs.declared.next.Answer.{Answer}
use Rattle.call_ticket.specs.declared.next.Answer.TheVariants as answer
use Rattle.action_plans.specs.declared.plan.Outcome.{Outcome}
use Rattle.action_plans.specs.declared.plan.Stop.{Stop}
use Rattle.action_plans.specs.declared.plan.Stop.TheVariants as stop
use Rattle.action_plans.specs.declared.plan.Want.{Want}
use Rattle.action_plans.specs.declared.plan.Want.TheVariants as want

-- A plan asks for a row or a table and goes on by the answer, or refuses the action, or gives a value.
pub data Plan (A : Type 0) : Type 0 where
  Asks : ReadMark → (Answer → Plan A) → Plan A
  Refuses : DoneText → Plan A
  Gives : A → Plan A

-- a plan, and then the one that the value of the first leads to
infixl 10 ◌>>=◌
unfoldable pub ◌>>=◌ : {A B : Type 0} → Plan A → (A → Plan B) → Plan B
(Asks m go) >>= f = Asks m (λ a. go a >>= f)
(Refuses d) >>= f = Refuses d
(Gives x) >>= f = f x

-- How far a plan comes with some answers to its reads: what it wants to read next, or its refusal, or its value and
-- the answers that are left.
pub data Walked (A : Type 0) : Type 0 where
  Wants : ReadMark → Walked A
  Refused : DoneText → Walked A
  Came : A → List Answer → Walked A

-- a plan takes its answers one after the other
unfoldable pub walk : {A : Type 0} → Plan A → List Answer → Walked A
walk (Asks m go) [] = Wants m
walk (Asks m go) (a ∷ answers) = walk (go a) answers
walk (Refuses d) answers = Refused d
walk (Gives x) answers = Came x answers

-- Code that takes answers comes just as far, where memory does not run out.
abbrev pub HasCome : {A : Type 0} → Result A Stop → List Answer → Walked A → Type 0
HasCome (Ok x) left walked = walked ≡ Came x left
HasCome (Err (stop.Ask m)) left walked = walked ≡ Wants m
HasCome (Err (stop.Refuse d)) left walked = walked ≡ Refused d
HasCome (Err stop.OutOfMemory) left walked = Unit {0}

-- Code that takes no answer gives or refuses just what a plan without a read does, where memory does not run out.
abbrev pub Has : {A : Type 0} → Result A Stop → Plan A → Type 0
Has (Ok x) plan = plan ≡ Gives x
Has (Err (stop.Ask m)) plan = ⊥
Has (Err (stop.Refuse d)) plan = plan ≡ Refuses d
Has (Err stop.OutOfMemory) plan = Unit {0}

-- what an action wants then
abbrev pub wanted : Walked Outcome → Want
wanted (Wants m) = want.Ask m
wanted (Refused d) = want.Finish (record { writes = []; done = d })
wanted (Came o left) = want.Finish o

-- what a read is answered over rows
abbrev pub answer_to : List RowWrite → ReadMark → Answer
answer_to rows (Row id) = answer.Row (row_in rows id)
answer_to rows (Table t) = answer.Rows (table_rows t rows)

-- the writes after these puts: the last put of each row, in the order of the first ones
abbrev pub put_each : List RowWrite → List RowWrite → List RowWrite
put_each writes [] = writes
put_each writes (p ∷ puts) = put_each (with_write writes p) puts
