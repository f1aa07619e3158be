-- Statuses that follow a journal.
use Rattle.std.proofs.Common.{◌≡◌, ◌≢◌, ℕ, ◌<◌, ◌≤◌, Bool, true, false, if◌then◌else◌, List, [], ◌∷◌, ◌++◌, length, get_or, None, refl, sym, ap, ◌∙◌, arith}
use Rattle.std.proofs.lemmas.List.{get_or-replicate}
use Rattle.crash_base.specs.declared.numbers.Place.{Place}
use Rattle.crash_base.specs.declared.scope.Scope.{Scope}
use Rattle.crash_base.specs.Scope.{holds}
use Rattle.crash_base.specs.declared.scope.TheConstants.{MAX_GROUPS}
use Rattle.journal_model.specs.declared.entry.CommitEntry.{CommitEntry}
use Rattle.journal_model.specs.declared.entry.Entry.{Entry}
use Rattle.journal_model.specs.declared.entry.Entry.TheVariants.{Commit, Down, Up}
use Rattle.journal_model.specs.declared.status.GroupStatus.{GroupStatus}
use Rattle.journal_model.specs.Legal.{AreInTurn, MayBegin, MayEnd}
use Rattle.journal_model.specs.Reboots.{down_of, status_of}
use Rattle.journal_model.specs.Statuses.{never_rebooted, statuses_first, status_in, went_down, came_up, changed, AreStatuses}
use Rattle.journal_model.proofs.Adding.{generation-few}
use Rattle.journal_model.proofs.Ending.{status_of-up}
use Rattle.journal_model.proofs.Rebooting.{status_of-commit, status_of-down, status_of-beside_down, status_of-beside_up}
use Rattle.journal_model.proofs.Undone.{none_down_by}

-- of the groups below a number those have changed that the scope holds, and the others are as they were
pub record ChangedBelow (scope : Scope) (change : GroupStatus → GroupStatus) (old new : List GroupStatus) (number : ℕ) : Type 0 where
  pub below : (g : ℕ) → g < number → status_in new g ≡ changed scope change old g
  pub above : (g : ℕ) → number ≤ g → status_in new g ≡ status_in old g

-- at first

pub statuses_at_first : (statuses : List GroupStatus) → statuses ≡ statuses_first → AreStatuses statuses []
unfolding statuses_first
statuses_at_first statuses is = λ g within. ap (λ (all : List GroupStatus). get_or all g never_rebooted) is ∙ get_or-replicate MAX_GROUPS g never_rebooted never_rebooted within

-- once a commit came

pub statuses_commit : (statuses : List GroupStatus) (es : List Entry) (e : CommitEntry) → AreStatuses statuses es → AreStatuses statuses (es ++ Commit e ∷ [])
statuses_commit statuses es e are = λ g within. are g within ∙ sym (status_of-commit es e g)

-- once a Down or an Up came, and each group that its scope holds has changed

statuses_changed : (scope : Scope) (change : GroupStatus → GroupStatus) (old new : List GroupStatus) (es : List Entry) (e : Entry) → AreStatuses old es → ((g : ℕ) → g < MAX_GROUPS → status_in new g ≡ changed scope change old g)
    → ((g : ℕ) → g < MAX_GROUPS → holds scope g ≡ true → change (status_of es g) ≡ status_of (es ++ e ∷ []) g) → ((g : ℕ) → holds scope g ≡ false → status_of (es ++ e ∷ []) g ≡ status_of es g) → AreStatuses new (es ++ e ∷ [])
statuses_changed scope change old new es e are each held apart = λ g within. each g within ∙ go g within (holds scope g) refl
  where
    go : (g : ℕ) → g < MAX_GROUPS → (b : Bool) → holds scope g ≡ b → (if b then change (status_in old g) else status_in old g) ≡ status_of (es ++ e ∷ []) g
    go g within true is = ap change (are g within) ∙ held g within is
    go g within false is = are g within ∙ sym (apart g is)

pub statuses_down : (scope : Scope) (place : Place) (old new : List GroupStatus) → ((g : ℕ) → g < MAX_GROUPS → holds scope g ≡ true → (status_in old g).down ≡ None) → ((g : ℕ) → g < MAX_GROUPS → status_in new g ≡ changed scope (went_down place) old g)
    → (es : List Entry) → AreStatuses old es → place.0 ≡ length es → AreStatuses new (es ++ Down scope ∷ [])
statuses_down scope place old new up each es are at = statuses_changed scope (went_down place) old new es (Down scope) are each
    (λ g within held.
    let none : down_of es g ≡ None = sym (ap (λ (s : GroupStatus). s.down) (are g within)) ∙ up g within held in
    ap (λ (n : ℕ). went_down (record { 0 = n }) (status_of es g)) at ∙ sym (status_of-down es scope g held none))
    (λ g apart. status_of-beside_down es scope g apart)

pub statuses_up : (scope : Scope) (old new : List GroupStatus) → ((g : ℕ) → g < MAX_GROUPS → status_in new g ≡ changed scope came_up old g)
    → (es : List Entry) → AreStatuses old es → AreInTurn es → MayEnd es scope → AreStatuses new (es ++ Up scope ∷ [])
statuses_up scope old new each es are turns may = statuses_changed scope came_up old new es (Up scope) are each
    (λ g within held. sym (status_of-up es scope g turns may held))
    (λ g apart. status_of-beside_up es scope g apart)

-- what may go down and come up as the journal allows

pub may_go_down : (statuses : List GroupStatus) (es : List Entry) (scope : Scope) → AreStatuses statuses es → MayBegin es scope → (g : ℕ) → g < MAX_GROUPS → holds scope g ≡ true → (status_in statuses g).down ≡ None
may_go_down statuses es scope are may g within held = ap (λ (s : GroupStatus). s.down) (are g within) ∙ may.up g held

pub generations_within : (statuses : List GroupStatus) (es : List Entry) (g : ℕ) → AreStatuses statuses es → g < MAX_GROUPS → (status_in statuses g).generation ≤ length es
generations_within statuses es g are within = omega (arith, ap (λ (s : GroupStatus). s.generation) (are g within), generation-few es g)

pub may_come_up : (statuses : List GroupStatus) (es : List Entry) (scope : Scope) → AreStatuses statuses es → MayEnd es scope → (g : ℕ) → g < MAX_GROUPS → holds scope g ≡ true → (status_in statuses g).down ≢ None
may_come_up statuses es scope are may g within held up =
    none_down_by es g (sym (ap (λ (s : GroupStatus). s.down) (are g within)) ∙ up) may.place (record { scope = scope; holding = held; undone = may.undone })
