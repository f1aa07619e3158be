-- The rule of the words' table, and what its steps tell.
use Rattle.std.specs.Prelude.{◌≡◌, ◌⊎◌, ℕ, ◌+◌, ◌^◌, ◌<◌, ◌≤◌, ◌==◌, nat_lt, max, if◌then◌else◌, Bool, true, false, List, [], ◌∷◌, ◌++◌, length, slice_index, All}
use mathlib.Core.Option.{some}
use lib.ListN.{get_elem?}
use Rattle.atomic_table.specs.Table.{State, Me, Step}
use Rattle.outside.specs.declared.serials.TheConstants.{SERIALS_END}
use Rattle.outside.specs.Serials.{AllDiffer}
use Rattle.shared_words.specs.declared.view.View.{View}
use Rattle.shared_words.specs.declared.view.Sight.{Sight}
use Rattle.shared_words.specs.Words.{greatest}

-- f of each, added up
abbrev pub total : {V : Type 0} → (V → ℕ) → List V → ℕ
total f [] = 0
total f (v ∷ vs) = f v + total f vs

-- how often a number stands in a list
abbrev pub times : ℕ → List ℕ → ℕ
times x [] = 0
times x (n ∷ ns) = (if n == x then 1 else 0) + times x ns

-- how often a number may have been drawn, by the serial word: once below it, and else never
abbrev pub once_below : ℕ → ℕ → ℕ
once_below x n = if nat_lt x n then 1 else 0

-- how many draws a seat is about to make, by whether it is between its look and its draw
abbrev pub counted : Bool → ℕ
counted true = 1
counted false = 0

-- how many draws a seat is about to make
abbrev pub weight : View → ℕ
weight v = counted v.flying

-- that a group was seen at a generation, or raised to it
abbrev pub sight_of : ℕ → ℕ → Sight
sight_of g n = record { group = g; generation = n }

-- A generation that was seen or raised is at most the group's word.
abbrev pub Stays : List ℕ → Sight → Type 0
Stays words s = s.generation ≤ slice_index words (1 + s.group)

-- A seat has a part where it is about to draw, it drew and saw nothing where it has none, and what it saw is at most
-- what the words are.
pub record Knows (words : List ℕ) (v : View) : Type 0 where
  pub light : weight v ≤ v.parts
  pub spare : v.parts ≡ 0 → (v.drawn ≡ []) × (v.sights ≡ [])
  pub seen : v.seen ≤ slice_index words 0
  pub sights : All (Stays words) v.sights

-- Some seat saw a group at this generation or a greater one, or raised it to one. At 0 none need have.
abbrev pub IsRaised : ℕ → ℕ → List View → Type 0
IsRaised g n views = (n ≡ 0) ⊎ ((by : ℕ) × (v : View) × (get_elem? views by ≡ some v) × (n ≤ greatest g v.sights))

-- The rule of words for so many groups, with so many parts. The serial word has room for each draw that is about to be
-- made; the parts of all seats sum up to the words'; what each seat knows stands; no number was drawn twice, nor one
-- that is not below the serial word; as many were drawn as are below it; and each generation was raised to what it is.
pub record Kept (groups all : ℕ) (s : State (Unit {0}) View) : Type 0 where
  pub few : all < 2 ^ 32
  pub size : length s.words ≡ 1 + groups
  pub room : slice_index s.words 0 + total weight s.views ≤ 2 ^ 62 + all
  pub parts : total (λ (v : View). v.parts) s.views ≡ all
  pub knows : (by : ℕ) (v : View) → get_elem? s.views by ≡ some v → Knows s.words v
  pub once : (x : ℕ) → total (λ (v : View). times x v.drawn) s.views ≤ once_below x (slice_index s.words 0)
  pub all_drawn : total (λ (v : View). length v.drawn) s.views ≡ slice_index s.words 0
  pub raised : (g : ℕ) → g < groups → IsRaised g (slice_index s.words (1 + g)) s.views

-- a seat as the table has it: what it knows, and what is in its hands
abbrev pub MeOf : Type 0
MeOf = Me (Unit {0}) View

-- The serial word was seen, and where it is below the end, the seat is about to draw. A seat with all parts saw how
-- many numbers it drew.
abbrev pub Sees : ℕ → Step (Unit {0}) → MeOf → ℕ → MeOf → Type 0
Sees all st m r m' = (m' ≡ (record (m.0) { flying = nat_lt r SERIALS_END; seen = r }, m.1)) × (m.0.seen ≤ r)
    × (m.0.parts ≡ all → r ≡ length m.0.drawn)

-- A number was drawn that this seat did not draw before. A seat with all parts drew the next one.
abbrev pub Draws : ℕ → Step (Unit {0}) → MeOf → ℕ → MeOf → Type 0
Draws all st m r m' = (m' ≡ (record (m.0) { flying = false; drawn = m.0.drawn ++ r ∷ []; seen = r }, m.1)) × (m.0.seen ≤ r)
    × (r < 2 ^ 62 + 2 ^ 32) × AllDiffer (m.0.drawn ++ r ∷ []) × (m.0.parts ≡ all → r ≡ length m.0.drawn)

-- Of a generation that was found: it is at least what this seat saw or raised there, and a seat with all parts found
-- just that.
abbrev pub Finds : ℕ → ℕ → ℕ → View → Type 0
Finds all g n v = (greatest g v.sights ≤ n) × (v.parts ≡ all → n ≡ greatest g v.sights)

-- A generation was seen.
abbrev pub Looks : ℕ → Step (Unit {0}) → MeOf → ℕ → MeOf → Type 0
Looks all st m r m' = (g : ℕ) → st.word ≡ 1 + g → (m' ≡ (record (m.0) { sights = m.0.sights ++ sight_of g r ∷ [] }, m.1)) × Finds all g r m.0

-- A generation was raised.
abbrev pub Raises : ℕ → Step (Unit {0}) → MeOf → ℕ → MeOf → Type 0
Raises all st m r m' = (g : ℕ) → st.word ≡ 1 + g → (m' ≡ (record (m.0) { sights = m.0.sights ++ sight_of g (max r st.first) ∷ [] }, m.1)) × Finds all g r m.0

-- Nothing changed, and the numbers that the seat drew differ.
abbrev pub Compares : Step (Unit {0}) → MeOf → ℕ → MeOf → Type 0
Compares st m r m' = (m' ≡ m) × AllDiffer m.0.drawn
