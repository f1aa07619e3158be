-- The rule of a lock's table, and what its steps tell.
use Rattle.std.specs.Prelude.{◌≡◌, ◌≢◌, Bool, true, false, None, ℕ, ◌+◌, ◌-◌, ◌%◌, ◌^◌, ◌<◌, ◌≤◌, nat_lt, if◌then◌else◌, List, [], ◌∷◌, ◌++◌, length, Option, Some}
use Rattle.std.specs.List.{range_with_len}
use mathlib.Core.Option.{some}
use mathlib.Core.List.{IsPrefix}
use lib.ListN.{get_elem?}
use Rattle.atomic_table.specs.Table.{State, Me, Step, rest}
use Rattle.turn_lock.specs.declared.view.View.{View}
use Rattle.turn_lock.specs.declared.view.Stage.{Stage}
use Rattle.turn_lock.specs.declared.view.Stage.TheVariants.{Idle, Waiting, Holding}

-- the longer of two lists, and the first where they are as long
abbrev pub longer : {E : Type 0} → List E → List E → List E
longer xs ys = if nat_lt (length xs) (length ys) then ys else xs

-- the other one
abbrev pub shorter : {E : Type 0} → List E → List E → List E
shorter xs ys = if nat_lt (length xs) (length ys) then xs else ys

-- f of each, added up
abbrev pub total : {V : Type 0} → (V → ℕ) → List V → ℕ
total f [] = 0
total f (v ∷ vs) = f v + total f vs

-- how many tickets are out with a seat at a stage
abbrev pub queued : Stage → ℕ
queued Idle = 0
queued Waiting = 1
queued Holding = 1

-- how many tickets are out with a seat
abbrev pub weight : {E : Type 0} → View E → ℕ
weight v = queued v.stage

module _ {E : Type 0} (log : List E) (served drawn : ℕ) where
  -- Of a ticket that is out: it was drawn and not yet served; and it is served where the value is out with its seat,
  -- which then has seen the whole history.
  abbrev pub Stands : View E → Stage → Type 0
  Stands v Idle = Unit {0}
  Stands v Waiting = (served ≤ v.ticket) × (v.ticket < drawn)
  Stands v Holding = (v.ticket ≡ served) × (v.ticket < drawn) × (v.seen ≡ log)

  -- A seat has seen beginnings of the history, has a part where it has a ticket, and its ticket stands.
  abbrev pub Knows : View E → Type 0
  Knows v = IsPrefix v.seen log × (weight v ≤ v.parts) × Stands v v.stage × IsPrefix v.beside log

-- Of two seats with a ticket each has another one.
abbrev pub Apart : {E : Type 0} → List (View E) → Type 0
Apart {E} views = (i j : ℕ) (v w : View E) → get_elem? views i ≡ some v → get_elem? views j ≡ some w
    → weight v ≡ 1 → weight w ≡ 1 → v.ticket ≡ w.ticket → i ≡ j

-- The value is out with no seat.
abbrev pub NoneHolds : {E : Type 0} → List (View E) → Type 0
NoneHolds {E} views = (i : ℕ) (v : View E) → get_elem? views i ≡ some v → v.stage ≢ Holding

-- A seat that has a part has seen the whole history.
pub record SeesAll {E : Type 0} (log : List E) (views : List (View E)) : Type 0 where
  pub by : ℕ
  pub view : View E
  pub here : get_elem? views by ≡ some view
  pub some_part : 0 < view.parts
  pub whole : view.seen ≡ log

module _ {T E : Type 0} (events : T → List E) where
  -- The rule of a lock with so many parts. There is one history; all tickets that were drawn are served or out, each
  -- with a seat of its own; the parts of all seats sum up to the lock's; what each seat knows stands, and one knows the
  -- whole history; and where the value is out with no seat, it is at home and has the history.
  pub record Kept (all : ℕ) (s : State (Option T) (View E)) : Type 0 where
    pub few : all < 2 ^ 32
    pub log : List E
    pub drawn : ℕ
    pub served : ℕ
    pub words : s.words ≡ (drawn % 2 ^ 64) ∷ (served % 2 ^ 64) ∷ []
    pub behind : served ≤ drawn
    pub counted : served + total weight s.views ≡ drawn
    pub parts : total (λ (v : View E). v.parts) s.views ≡ all
    pub knows : (by : ℕ) (v : View E) → get_elem? s.views by ≡ some v → Knows log served drawn v
    pub latest : SeesAll log s.views
    pub apart : Apart s.views
    pub slots : length s.homes ≡ 1
    pub home : NoneHolds s.views → (x : T) × (get_elem? s.homes 0 ≡ some (some (Some x))) × (events x ≡ log)

  -- a seat as the table has it: what it knows, and what is in its hands
  abbrev pub MeOf : Type 0
  MeOf = Me (Option T) (View E)

  -- A ticket was drawn.
  abbrev pub Draws : Step (Option T) → MeOf → ℕ → MeOf → Type 0
  Draws st m r m' = (m'.1 ≡ m.1) × (m'.0.seen ≡ m.0.seen) × (m'.0.own ≡ m.0.own) × (m'.0.parts ≡ m.0.parts) × (m'.0.stage ≡ Waiting) × (r ≡ m'.0.ticket % 2 ^ 64)

  -- The value came, with a history that begins with all that was seen.
  abbrev pub Comes : MeOf → MeOf → Type 0
  Comes m m' = (x : T) × (m'.1 ≡ (0, Some x) ∷ m.1) × (m'.0.seen ≡ events x) × IsPrefix m.0.seen (events x)
      × (m'.0.own ≡ m.0.own) × (m'.0.parts ≡ m.0.parts) × (m'.0.stage ≡ Holding)

  -- Where the ticket that is served is the seat's, the value came. Else nothing changed.
  abbrev pub Looks : Step (Option T) → MeOf → ℕ → MeOf → Type 0
  Looks st m r m' = (r ≡ m.0.ticket % 2 ^ 64 → Comes m m') × (r ≢ m.0.ticket % 2 ^ 64 → m' ≡ m)

  -- Nothing changed, and what was seen begins with what is beside it.
  abbrev pub Compares : Step (Option T) → MeOf → ℕ → MeOf → Type 0
  Compares st m r m' = (m' ≡ m) × IsPrefix m.0.beside m.0.seen

  -- The value went home: the history grew, and the new places are the seat's own.
  abbrev pub Goes : Step (Option T) → MeOf → ℕ → MeOf → Type 0
  Goes st m r m' = (x : T) × (m.1 ≡ (0, Some x) ∷ rest m.1) × (m'.1 ≡ rest m.1) × (m'.0.seen ≡ events x)
      × (m'.0.own ≡ m.0.own ++ range_with_len (length m.0.seen) (length (events x) - length m.0.seen))
      × (m'.0.parts ≡ m.0.parts) × (m'.0.stage ≡ Idle)

-- whether the value is out with a seat
abbrev pub is_out : Stage → Bool
is_out Idle = false
is_out Waiting = false
is_out Holding = true

-- What a seat has in its hands at a stage, between the calls of a lock: nothing, or the empty slot of the value that
-- is out.
abbrev pub SettledAt : {T E : Type 0} → Stage → Me (Option T) (View E) → Type 0
SettledAt Idle me = me.1 ≡ []
SettledAt Waiting me = ⊥
SettledAt Holding me = me.1 ≡ (0, None) ∷ []

-- A seat between the calls of a lock: it waits for nothing, has a part, and has in its hands what its stage says.
abbrev pub IsSettled : {T E : Type 0} → Me (Option T) (View E) → Type 0
IsSettled me = (0 < me.0.parts) × SettledAt me.0.stage me
