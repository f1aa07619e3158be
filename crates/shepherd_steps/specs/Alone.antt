-- What a connection does by itself, until others are to step: it takes in what it heard, makes a program or a response,
-- or lets its item be taken.
use Rattle.std.specs.Prelude.{◌≡◌, ◌≢◌, ℕ, Bool, true, false, List, [], ◌∷◌, ◌++◌, None}
use Rattle.auction_calls.specs.declared.action.ActionCall.{ActionCall}
use Rattle.crash_base.specs.declared.numbers.WorkerNo.{WorkerNo}
use Rattle.outcome_items.specs.declared.item.Item.{Item}
use Rattle.request_visit.specs.Advancing.{Advances}
use Rattle.request_visit.specs.declared.visit.Visit.{Visit}
use Rattle.shepherd.specs.Shepherds.{turn}
use Rattle.shepherd.specs.Standing.{is_early}
use Rattle.shepherd.specs.Steps.{OpensStage, ShepherdSteps, TakesItem}
use Rattle.shepherd.specs.declared.shepherd.Shepherd.{Shepherd}
use Rattle.shepherd.specs.declared.shepherd.ShepherdTurn.{ShepherdTurn}
use Rattle.shepherd.specs.declared.shepherd.ShepherdTurn.TheVariants as turns
use Rattle.shepherd.specs.declared.shepherd.Stage.{Stage}
use Rattle.shepherd.specs.declared.shepherd.Stage.TheVariants.{Resting, Serving, Refusing, Over}
use Rattle.shepherd_steps.specs.Leaving.{item_taken}
use Rattle.shepherd_steps.specs.Opening.{open_stage}
use Rattle.shepherd_steps.specs.Own.{own}

-- The key under which responses are made, who serves, and the text and the program that are made of a call.
pub record Making (P : Type 0) : Type 0 where
  pub key : List ℕ
  pub worker : WorkerNo
  pub made : ActionCall → List ℕ × P

-- whether a connection goes on by itself
abbrev pub goes_alone : ShepherdTurn → Bool
goes_alone turns.Bytes = false
goes_alone turns.Request = false
goes_alone turns.Outside = false
goes_alone turns.Windows = false
goes_alone turns.Inside = false
goes_alone turns.Program = true
goes_alone turns.Own = true
goes_alone turns.Output = false
goes_alone turns.Item = true
goes_alone (turns.Ended end) = false

-- the stage once the request that is open did what it does by itself
abbrev pub own_stage : {P : Type 0} → List ℕ → Stage P → Stage P
own_stage key Resting = Resting
own_stage key (Serving v call) = Serving (own key v) call
own_stage key (Refusing why bytes) = Refusing why bytes
own_stage key (Over end) = Over end

-- a connection after what it does by itself at a turn, and the item that it gives, if one
abbrev pub alone_at : {P : Type 0} → Making P → ShepherdTurn → Shepherd P → Shepherd P × List Item
alone_at m turns.Bytes s = (s, [])
alone_at m turns.Request s = (s, [])
alone_at m turns.Outside s = (s, [])
alone_at m turns.Windows s = (s, [])
alone_at m turns.Inside s = (s, [])
alone_at m turns.Program s = (record s { stage = open_stage m.made m.worker s.stage }, [])
alone_at m turns.Own s = (record s { stage = own_stage m.key s.stage }, [])
alone_at m turns.Output s = (s, [])
alone_at m turns.Item s = item_taken s
alone_at m (turns.Ended end) s = (s, [])

-- a connection after one thing that it does by itself, if it goes on by itself
unfoldable pub alone : {P : Type 0} → Making P → Shepherd P → Shepherd P × List Item
alone m s = alone_at m (turn s) s

-- The connection once others are to step, and the items that it gave: it does two things by itself at most, one after
-- the other.
unfoldable pub gone_alone : {P : Type 0} → Making P → Shepherd P → Shepherd P × List Item
gone_alone m s = let first = alone m s in let second = alone m first.0 in (second.0, first.1 ++ second.1)

-- An item was taken.
pub record GivesItem {P : Type 0} (old new : Shepherd P) (items : List Item) : Type 0 where
  pub item : Item
  pub takes : TakesItem old.stage item new.stage
  pub rest : new ≡ record old { front = item.holds.front; stage = new.stage }
  pub items_are : items ≡ item ∷ []

-- A program was made.
pub record MakesProgram {P M : Type 0} (makes : M → ActionCall → List ℕ → P → Type 0) (maker : M) (worker : WorkerNo) (old new : Shepherd P) (items : List Item) : Type 0 where
  pub opens : OpensStage makes maker worker old.stage new.stage
  pub rest : new ≡ record old { stage = new.stage }
  pub items_are : items ≡ []

-- A request did what it does by itself.
pub record DoesOwn {P : Type 0} (key : List ℕ) (old new : Shepherd P) (items : List Item) : Type 0 where
  pub steps : ShepherdSteps (λ (v w : Visit P). Advances key v v.work w) old new
  pub items_are : items ≡ []

-- The call was made by which a connection goes on by itself at a turn; no call is made at a turn of others.
abbrev pub GoesAlone : {P M : Type 0} → (M → ActionCall → List ℕ → P → Type 0) → M → WorkerNo → List ℕ → ShepherdTurn → Shepherd P → Shepherd P → List Item → Type 0
GoesAlone makes maker worker key turns.Bytes old new items = ⊥
GoesAlone makes maker worker key turns.Request old new items = ⊥
GoesAlone makes maker worker key turns.Outside old new items = ⊥
GoesAlone makes maker worker key turns.Windows old new items = ⊥
GoesAlone makes maker worker key turns.Inside old new items = ⊥
GoesAlone makes maker worker key turns.Program old new items = MakesProgram makes maker worker old new items
GoesAlone makes maker worker key turns.Own old new items = DoesOwn key old new items
GoesAlone makes maker worker key turns.Output old new items = ⊥
GoesAlone makes maker worker key turns.Item old new items = GivesItem old new items
GoesAlone makes maker worker key (turns.Ended end) old new items = ⊥

-- Such calls were made as long as a connection goes on by itself: it came through these, each with the item that it
-- gave.
abbrev pub GoesAloneThrough : {P M : Type 0} → (M → ActionCall → List ℕ → P → Type 0) → M → WorkerNo → List ℕ → List (Shepherd P × List Item) → Shepherd P → Shepherd P → List Item → Type 0
GoesAloneThrough makes maker worker key [] old new items =
    (goes_alone (turn old) ≡ false) × (new ≡ old) × (items ≡ [])
GoesAloneThrough makes maker worker key (step ∷ more) old new items =
    (rest : List Item) × GoesAlone makes maker worker key (turn old) old step.0 step.1
    × GoesAloneThrough makes maker worker key more step.0 new rest × (items ≡ step.1 ++ rest)

-- The call of the request that is open is there until its program is made.
abbrev pub HasCall : {P : Type 0} → Stage P → Type 0
HasCall Resting = Unit {0}
HasCall (Serving v call) = is_early v.work ≡ true → call ≢ None
HasCall (Refusing why bytes) = Unit {0}
HasCall (Over end) = Unit {0}
