-- What steps leave of a group.
use Rattle.std.proofs.Common.{◌≡◌, ℕ, ◌+◌, ◌<◌, Bool, true, false, cond, eqb, List, [], ◌∷◌, ◌++◌, length, Some, None, refl, sym, ap, ◌∙◌, add_assoc, arith, slice_set, eq-eqb, get_or-set_other}
use Rattle.std.specs.List.{list_any, count_by}
use Rattle.std.proofs.Math.ListN.{length-set}
use Rattle.std.proofs.lemmas.Bool.{eqb-true, eqb-false, or_parts}
use Rattle.std.proofs.lemmas.Grind.{get_or-set_at}
use Rattle.std.proofs.lemmas.List.{get_or-replicate, length-replicate}
use Rattle.std.proofs.lemmas.List.Sums.{fold-append, sum_by-cons}
use Rattle.crash_base.specs.declared.numbers.Place.{Place}
use Rattle.crash_base.specs.declared.scope.TheConstants.{MAX_GROUPS}
use Rattle.journal_model.specs.declared.status.GroupStatus.{GroupStatus}
use Rattle.journal_model.specs.Statuses.{never_rebooted, statuses_first, went_down, came_up}
use Rattle.naming_table.specs.declared.bound.BoundName.{BoundName}
use Rattle.naming_table.specs.Names.{NamesValue, status_at}
use Rattle.naming_table.specs.Steps.{Step, SetDown, SetUp, after_step, after_steps, is_step_of, is_set_down_of}

-- one step

length-after_step : (names : NamesValue) (s : Step) → length (after_step names s).statuses ≡ length names.statuses
length-after_step names (SetDown g place) = length-set names.statuses g (went_down place (status_at names g))
length-after_step names (SetUp g) = length-set names.statuses g (came_up (status_at names g))

-- the names once a group has another status
abbrev with_status : NamesValue → ℕ → GroupStatus → NamesValue
with_status names g status = record names { statuses = slice_set names.statuses g status }

-- the group of the step
status_at-same : (names : NamesValue) (h g : ℕ) (change : GroupStatus → GroupStatus) → eqb h g ≡ true → g < length names.statuses → status_at (with_status names h (change (status_at names h))) g ≡ change (status_at names g)
status_at-same names h g change same within =
    let is : h ≡ g = eqb-true h g same in
    let inside : h < length names.statuses = omega arith in
    get_or-set_at names.statuses h g (change (status_at names h)) never_rebooted (sym is) inside ∙ ap (λ k. change (status_at names k)) is

-- and any other
status_at-other : (names : NamesValue) (h g : ℕ) (status : GroupStatus) → eqb h g ≡ false → status_at (with_status names h status) g ≡ status_at names g
status_at-other names h g status apart = get_or-set_other names.statuses h g status never_rebooted (λ is. eqb-false h g apart (sym is))

status_at-apart : (names : NamesValue) (s : Step) (g : ℕ) → is_step_of g s ≡ false → status_at (after_step names s) g ≡ status_at names g
status_at-apart names (SetDown h place) g apart = status_at-other names h g (went_down place (status_at names h)) apart
status_at-apart names (SetUp h) g apart = status_at-other names h g (came_up (status_at names h)) apart

generation-after_step : (names : NamesValue) (s : Step) (g : ℕ) → g < length names.statuses → (status_at (after_step names s) g).generation ≡ (status_at names g).generation + cond (is_set_down_of g s) 1 0
generation-after_step names (SetDown h place) g within = go (eqb h g) refl
  where
    go : (b : Bool) → eqb h g ≡ b → (status_at (after_step names (SetDown h place)) g).generation ≡ (status_at names g).generation + cond b 1 0
    go true e = ap (λ (s : GroupStatus). s.generation) (status_at-same names h g (went_down place) e within)
    go false e = omega (arith, ap (λ (s : GroupStatus). s.generation) (status_at-apart names (SetDown h place) g e))
generation-after_step names (SetUp h) g within = go (eqb h g) refl
  where
    go : (b : Bool) → eqb h g ≡ b → (status_at (after_step names (SetUp h)) g).generation ≡ (status_at names g).generation + 0
    go true e = omega (arith, ap (λ (s : GroupStatus). s.generation) (status_at-same names h g came_up e within))
    go false e = omega (arith, ap (λ (s : GroupStatus). s.generation) (status_at-apart names (SetUp h) g e))

-- all steps

length-after_steps : (names : NamesValue) (steps : List Step) → length (after_steps names steps).statuses ≡ length names.statuses
length-after_steps names [] = refl
length-after_steps names (s ∷ steps) = length-after_steps (after_step names s) steps ∙ length-after_step names s

pub generation-after_steps : (names : NamesValue) (steps : List Step) (g : ℕ) → g < length names.statuses → (status_at (after_steps names steps) g).generation ≡ (status_at names g).generation + count_by (is_set_down_of g) steps
generation-after_steps names [] g within = omega arith
generation-after_steps names (s ∷ steps) g within =
    let inside : g < length (after_step names s).statuses = omega (arith, length-after_step names s) in
    generation-after_steps (after_step names s) steps g inside
    ∙ ap (λ n. n + count_by (is_set_down_of g) steps) (generation-after_step names s g within)
    ∙ add_assoc (status_at names g).generation (cond (is_set_down_of g s) 1 0) (count_by (is_set_down_of g) steps)
    ∙ ap (λ n. (status_at names g).generation + n) (sym (sum_by-cons (λ t. cond (is_set_down_of g t) 1 0) s steps))

-- from names that were never rebooted on, a generation is that number alone
pub generation-first : (bound : List BoundName) (steps : List Step) (g : ℕ) → g < MAX_GROUPS → (status_at (after_steps (record { bound = bound; statuses = statuses_first }) steps) g).generation ≡ count_by (is_set_down_of g) steps
unfolding statuses_first
generation-first bound steps g within =
    let names : NamesValue = record { bound = bound; statuses = statuses_first } in
    let many : length names.statuses ≡ MAX_GROUPS = length-replicate MAX_GROUPS never_rebooted in
    let none : (status_at names g).generation ≡ 0 = ap (λ (s : GroupStatus). s.generation) (get_or-replicate MAX_GROUPS g never_rebooted never_rebooted within) in
    omega (arith, generation-after_steps names steps g (omega (arith, many)), none)

pub untouched-after_steps : (names : NamesValue) (steps : List Step) (g : ℕ) → list_any (is_step_of g) steps ≡ false → status_at (after_steps names steps) g ≡ status_at names g
untouched-after_steps names [] g none = refl
untouched-after_steps names (s ∷ steps) g none =
    let parts = or_parts (is_step_of g s) (list_any (is_step_of g) steps) none in
    untouched-after_steps (after_step names s) steps g parts.1 ∙ status_at-apart names s g parts.0

-- the last step of a group counts
last_of : (names : NamesValue) (before : List Step) (s : Step) (later : List Step) (g : ℕ) → list_any (is_step_of g) later ≡ false → status_at (after_steps names (before ++ s ∷ later)) g ≡ status_at (after_step (after_steps names before) s) g
last_of names before s later g none =
    ap (λ (n : NamesValue). status_at n g) (fold-append after_step names before (s ∷ later)) ∙ untouched-after_steps (after_step (after_steps names before) s) later g none

eqb-self : (g : ℕ) → eqb g g ≡ true
eqb-self g = eq-eqb g g refl

pub down-after_steps : (names : NamesValue) (before later : List Step) (g : ℕ) (place : Place) → g < length names.statuses → list_any (is_step_of g) later ≡ false → (status_at (after_steps names (before ++ SetDown g place ∷ later)) g).down ≡ Some place
down-after_steps names before later g place within none =
    ap (λ (s : GroupStatus). s.down) (last_of names before (SetDown g place) later g none ∙ status_at-same (after_steps names before) g g (went_down place) (eqb-self g) (omega (arith, length-after_steps names before)))

pub up-after_steps : (names : NamesValue) (before later : List Step) (g : ℕ) → g < length names.statuses → list_any (is_step_of g) later ≡ false → (status_at (after_steps names (before ++ SetUp g ∷ later)) g).down ≡ None
up-after_steps names before later g within none =
    ap (λ (s : GroupStatus). s.down) (last_of names before (SetUp g) later g none ∙ status_at-same (after_steps names before) g g came_up (eqb-self g) (omega (arith, length-after_steps names before)))

pub bound-after_steps : (names : NamesValue) (steps : List Step) → (after_steps names steps).bound ≡ names.bound
bound-after_steps names [] = refl
bound-after_steps names (SetDown g place ∷ steps) = bound-after_steps (after_step names (SetDown g place)) steps
bound-after_steps names (SetUp g ∷ steps) = bound-after_steps (after_step names (SetUp g)) steps
