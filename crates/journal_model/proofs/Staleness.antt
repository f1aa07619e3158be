-- Staleness by places is staleness by generations.
use Rattle.std.proofs.Common.{◌≡◌, ◌≢◌, inl, inr, ◌||◌, None, ℕ, zero, suc, ◌+◌, ◌<◌, ◌≤◌, Bool, true, false, cond, List, [], ◌∷◌, ◌++◌, length, take, drop, Some, refl, sym, ap, ◌∙◌, arith, slice_get, length-append}
use Rattle.std.specs.List.{list_any}
use Rattle.std.proofs.lemmas.Bool.{cases_lt}
use Rattle.std.proofs.lemmas.Bool.Decides.{nat_tests}
use Rattle.std.proofs.lemmas.List.{take-append-le, take-append-drop, take_all}
use Rattle.std.proofs.lemmas.Option.{slice_get_within}
use Rattle.crash_base.specs.declared.scope.Scope.{Scope}
use Rattle.crash_base.specs.declared.scope.TheConstants.{MAX_GROUPS}
use Rattle.crash_base.specs.Scope.{holds}
use Rattle.journal_model.specs.declared.entry.Entry.{Entry}
use Rattle.journal_model.specs.declared.entry.Entry.TheVariants.{Commit, Down, Up}
use Rattle.journal_model.specs.declared.entry.Touch.{Touch}
use Rattle.journal_model.specs.Reboots.{is_down_of, generation, down_of}
use Rattle.journal_model.specs.Stale.{IsTouch, IsStale, IsLive, is_stale, has_passed, new_touch}
use Rattle.journal_model.proofs.Adding.{generation-append}
use Rattle.journal_model.proofs.OneDown.{undone_take}
use Rattle.journal_model.proofs.Places.{slice_get-append}
use Rattle.journal_model.proofs.Undone.{none_down_by, none_found}

-- a prefix has no more reboots
generation-take : (es : List Entry) (g k : ℕ) → generation (take k es) g ≤ generation es g
generation-take es g k = omega (arith, generation-append (take k es) (drop k es) g, ap (λ xs. generation xs g) (take-append-drop k es))

-- a Down of the group, at a place or later, counts after the prefix of that length
generation_grows : (es : List Entry) (g k place : ℕ) (s : Scope) → k ≤ place → slice_get es place ≡ Some (Down s) → holds s g ≡ true → generation (take k es) g < generation es g
generation_grows [] g k place s since is held = absurd (cc)
generation_grows (e ∷ es) g zero zero s since is held =
    let down : e ≡ Down s = cc in
    let here : is_down_of g e ≡ true = ap (is_down_of g) down ∙ held in
    let one : generation (e ∷ []) g ≡ 1 = rw here refl in
    omega arith
generation_grows (e ∷ es) g zero (suc place) s since is held = omega (arith, generation_grows es g zero place s (omega arith) is held)
generation_grows (e ∷ es) g (suc k) zero s since is held = absurd (omega arith)
generation_grows (e ∷ es) g (suc k) (suc place) s since is held = omega (arith, generation_grows es g k place s (omega arith) is held)

-- a Down of the group, at a place or later
record DownSince (es : List Entry) (g k : ℕ) : Type 0 where
  pub place : ℕ
  pub since : k ≤ place
  pub scope : Scope
  pub down : slice_get es place ≡ Some (Down scope)
  pub holding : holds scope g ≡ true

later_down : (e : Entry) (es : List Entry) (g k j : ℕ) → j ≤ suc k → DownSince es g k → DownSince (e ∷ es) g j
later_down e es g k j before d = record { place = suc d.place; since = omega (arith, d.since); scope = d.scope; down = d.down; holding = d.holding }

-- where the generation grew after the prefix of a length, such a Down is at that place or later
down_since : (es : List Entry) (g k : ℕ) → generation (take k es) g < generation es g → DownSince es g k
down_since [] g k grown = absurd (omega arith)
down_since (e ∷ es) g (suc k) grown = later_down e es g k (suc k) (omega arith) (down_since es g k (omega arith))
down_since (Commit e ∷ es) g zero grown = later_down (Commit e) es g zero zero (omega arith) (down_since es g zero (omega arith))
down_since (Up s ∷ es) g zero grown = later_down (Up s) es g zero zero (omega arith) (down_since es g zero (omega arith))
down_since (Down s ∷ es) g zero grown = go (holds s g) refl (down_since es g zero) grown
  where
    go : (b : Bool) → holds s g ≡ b → (0 < generation es g → DownSince es g zero) → 0 < cond b 1 0 + generation es g → DownSince (Down s ∷ es) g zero
    go true held later some = record { place = 0; since = omega arith; scope = s; down = refl; holding = held }
    go false apart later some = later_down (Down s) es g zero zero (omega arith) (later (omega arith))

shown_by : (es : List Entry) (t : Touch) → IsTouch es t → IsStale es t → has_passed es t ≡ true
shown_by es t touch stale =
    let grown : generation (take t.front.0 es) t.group.0 < generation es t.group.0 = generation_grows es t.group.0 t.front.0 stale.place stale.scope stale.since stale.down stale.holding in
    let had : t.generation ≡ generation (take t.front.0 es) t.group.0 = touch.had in
    grind (arith, nat_tests)

shows : (es : List Entry) (t : Touch) → IsTouch es t → has_passed es t ≡ true → IsStale es t
shows es t touch is =
    let had : t.generation ≡ generation (take t.front.0 es) t.group.0 = touch.had in
    let other : t.generation ≢ generation es t.group.0 = grind (arith, nat_tests) in
    let few : generation (take t.front.0 es) t.group.0 ≤ generation es t.group.0 = generation-take es t.group.0 t.front.0 in
    let d = down_since es t.group.0 t.front.0 (omega arith) in
    record { place = d.place; since = d.since; scope = d.scope; down = d.down; holding = d.holding }

-- a touch that is made now

pub new_is_touch : (es : List Entry) (g : ℕ) → g < MAX_GROUPS → down_of es g ≡ None → IsTouch es (new_touch es g)
new_is_touch es g known up =
    let whole : take (length es) es ≡ es = take_all (length es) es (omega arith) in
    record { known = known; within = omega arith; had = ap (λ xs. generation xs g) (sym whole); up = ap (λ xs. down_of xs g) whole ∙ up }

pub new_is_not_stale : (es : List Entry) (g : ℕ) → ¬ IsStale es (new_touch es g)
new_is_not_stale es g stale = omega (arith, stale.since, slice_get_within es stale.place (Down stale.scope) stale.down)

-- once more has entered the journal

pub touch_kept : (es more : List Entry) (t : Touch) → IsTouch es t → IsTouch (es ++ more) t
touch_kept es more t touch =
    let front : take t.front.0 es ≡ take t.front.0 (es ++ more) = sym (take-append-le t.front.0 es more touch.within) in
    record {
      known = touch.known;
      within = omega (arith, touch.within, length-append es more);
      had = touch.had ∙ ap (λ xs. generation xs t.group.0) front;
      up = ap (λ xs. down_of xs t.group.0) (sym front) ∙ touch.up;
    }

pub stale_kept : (es more : List Entry) (t : Touch) → IsStale es t → IsStale (es ++ more) t
stale_kept es more t stale = record {
  place = stale.place;
  since = stale.since;
  scope = stale.scope;
  down = slice_get-append es more stale.place (Down stale.scope) stale.down;
  holding = stale.holding;
}

-- as a test

generation_any : (es : List Entry) (g : ℕ) → (list_any (is_down_of g) es ≡ true → 0 < generation es g) × (list_any (is_down_of g) es ≡ false → generation es g ≡ 0)
generation_any [] g = (λ h. absurd (cc), λ h. refl)
generation_any (e ∷ es) g = go (is_down_of g e) (generation_any es g)
  where
    go : (b : Bool) → (list_any (is_down_of g) es ≡ true → 0 < generation es g) × (list_any (is_down_of g) es ≡ false → generation es g ≡ 0)
        → ((b || list_any (is_down_of g) es) ≡ true → 0 < cond b 1 0 + generation es g) × ((b || list_any (is_down_of g) es) ≡ false → cond b 1 0 + generation es g ≡ 0)
    go true h = (λ k. omega arith, λ k. absurd (cc))
    go false h = (λ k. omega (arith, h.0 k), λ k. omega (arith, h.1 k))

-- the generation is that at the front, and the Downs since
since_front : (es : List Entry) (g k : ℕ) → generation es g ≡ generation (take k es) g + generation (drop k es) g
since_front es g k = ap (λ xs. generation xs g) (sym (take-append-drop k es)) ∙ generation-append (take k es) (drop k es) g

pub tested : (es : List Entry) (t : Touch) → (is_stale es t ≡ true → IsStale es t) × (is_stale es t ≡ false → ¬ IsStale es t)
tested es t =
    let g = t.group.0 in
    let k = t.front.0 in
    let any = generation_any (drop k es) g in (
      λ is. let d = down_since es g k (omega (arith, any.0 is, since_front es g k)) in record { place = d.place; since = d.since; scope = d.scope; down = d.down; holding = d.holding },
      λ is stale. absurd (omega (arith, generation_grows es g k stale.place stale.scope stale.since stale.down stale.holding, any.1 is, since_front es g k)),
    )

pub is_tested : (es : List Entry) (t : Touch) → IsStale es t → is_stale es t ≡ true
is_tested es t stale = go (is_stale es t) refl
  where
    go : (b : Bool) → is_stale es t ≡ b → is_stale es t ≡ true
    go true is = is
    go false is = absurd ((tested es t).1 is stale)

-- both tests are one
pub same_tests : (es : List Entry) (t : Touch) → IsTouch es t → is_stale es t ≡ has_passed es t
same_tests es t touch = go (is_stale es t) refl (has_passed es t) refl
  where
    go : (a : Bool) → is_stale es t ≡ a → (b : Bool) → has_passed es t ≡ b → a ≡ b
    go true is true passed = refl
    go false is false passed = refl
    go true is false passed = absurd (let yes = shown_by es t touch ((tested es t).0 is) in cc)
    go false is true passed = absurd ((tested es t).1 is (shows es t touch passed))

-- a touch that is not stale is live
pub live_of : (es : List Entry) (t : Touch) → IsTouch es t → ¬ IsStale es t → IsLive es t
live_of es t touch fresh = record {
  unrebooted = fresh;
  present = go (has_passed es t) refl;
  up = none_found es t.group.0 (λ i down. elim (cases_lt i t.front.0) [
    | inl before ↦ none_down_by (take t.front.0 es) t.group.0 touch.up i (record { scope = down.scope; holding = down.holding; undone = undone_take es i t.front.0 down.scope down.undone before })
    | inr since ↦ fresh (record { place = i; since = since; scope = down.scope; down = down.undone.down; holding = down.holding })
  ]);
}
  where
    go : (b : Bool) → has_passed es t ≡ b → t.generation ≡ generation es t.group.0
    go true passed = absurd (fresh (shows es t touch passed))
    go false passed = grind (arith, nat_tests)
