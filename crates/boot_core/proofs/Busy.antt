-- The search for a group that is down.
use Rattle.deployment.specs.Groups.{group_no}
use Rattle.std.proofs.Common.{ℕ, suc, zero, ◌≡◌, ◌+◌, ◌-◌, ◌<◌, ◌≤◌, Option, Some, None, option_map, List, [], ◌∷◌, true, false, Bool, if◌then◌else◌, inl, inr, refl, sym, ◌∙◌, ap, subst, arith}
use Rattle.std.proofs.lemmas.Bool.{cases_lt}
use Rattle.crash_base.specs.declared.numbers.GroupNo.{GroupNo}
use Rattle.crash_base.specs.declared.numbers.Place.{Place}
use Rattle.crash_base.specs.declared.scope.Scope.{Scope}
use Rattle.crash_base.specs.declared.scope.TheConstants.{MAX_GROUPS}
use Rattle.crash_base.specs.Refusals.{first_of}
use Rattle.crash_base.specs.Scope.{holds}
use Rattle.journal_model.specs.declared.entry.Entry.{Entry}
use Rattle.journal_model.specs.Reboots.{down_of}
use Rattle.boot_core.specs.declared.refusals.RebootRefusal.{RebootRefusal}
use Rattle.boot_core.specs.declared.refusals.RebootRefusal.TheVariants.{Busy}
use Rattle.boot_core.specs.Refusals.{busy, busy_from, busy_at, IsLeastDown}
use Rattle.boot_core.proofs.Refusing.{first_none, first_alone, map_none}

pub busy_first : (es : List Entry) (s : Scope) → busy es s ≡ busy_from es s 0 MAX_GROUPS
unfolding busy
busy_first es s = refl

left_of : (n g : ℕ) → g < n → n - g ≡ suc (n - (g + 1))
left_of n g lt = omega arith

-- the search from a group on, where that one is not busy and where it is

pub busy_next : (es : List Entry) (s : Scope) (n g : ℕ) → g < n → busy_at es s g ≡ None → busy_from es s g (n - g) ≡ busy_from es s (g + 1) (n - (g + 1))
busy_next es s n g lt none =
    ap (busy_from es s g) (left_of n g lt) ∙ ap (λ o. first_of (o ∷ busy_from es s (g + 1) (n - (g + 1)) ∷ [])) none ∙ first_alone (busy_from es s (g + 1) (n - (g + 1)))

pub busy_here : (es : List Entry) (s : Scope) (n g : ℕ) (r : RebootRefusal) → g < n → busy_at es s g ≡ Some r → busy_from es s g (n - g) ≡ Some r
busy_here es s n g r lt some = ap (busy_from es s g) (left_of n g lt) ∙ ap (λ o. first_of (o ∷ busy_from es s (g + 1) (n - (g + 1)) ∷ [])) some

-- a group that is not busy is up or not held
at_none : (es : List Entry) (s : Scope) (g : ℕ) → busy_at es s g ≡ None → holds s g ≡ true → down_of es g ≡ None
at_none es s g none held =
    let here : option_map (λ place. Busy (group_no g) place) (down_of es g) ≡ None = sym (ap (λ b. if b then option_map (λ place. Busy (group_no g) place) (down_of es g) else None) held) ∙ none in
    map_none (λ place. Busy (group_no g) place) (down_of es g) here

none_from : (es : List Entry) (s : Scope) (n g k : ℕ) → busy_from es s g n ≡ None → g ≤ k → k < g + n → holds s k ≡ true → down_of es k ≡ None
none_from es s zero g k none le lt held = absurd (omega arith)
none_from es s (suc n) g k none le lt held =
    let parts = first_none (busy_at es s g) (busy_from es s (g + 1) n ∷ []) none in
    let later = first_none (busy_from es s (g + 1) n) [] parts.1 in
    elim (cases_lt g k) [
      | inl after ↦ none_from es s n (g + 1) k later.0 (omega arith) (omega arith) held
      | inr not_after ↦ (
          let same : g ≡ k = omega arith in
          let P : ℕ → Type 0 = λ z. holds s z ≡ true → down_of es z ≡ None in
          subst P same (at_none es s g parts.0) held)
    ]

pub busy_none : (es : List Entry) (s : Scope) → busy es s ≡ None → (k : ℕ) → k < MAX_GROUPS → holds s k ≡ true → down_of es k ≡ None
busy_none es s none k lt held = none_from es s MAX_GROUPS 0 k (sym (busy_first es s) ∙ none) (omega arith) (omega arith) held

-- what is found from a group on
record IsLeastFrom (es : List Entry) (s : Scope) (g n : ℕ) (group : GroupNo) (place : Place) : Type 0 where
  pub from : g ≤ group.0
  pub within : group.0 < g + n
  pub held : holds s group.0 ≡ true
  pub down : down_of es group.0 ≡ Some place
  pub least : (h : ℕ) → g ≤ h → h < group.0 → holds s h ≡ true → down_of es h ≡ None

found_at : (es : List Entry) (s : Scope) (g : ℕ) (group : GroupNo) (place : Place) → busy_at es s g ≡ Some (Busy group place) → (g ≡ group.0) × (holds s g ≡ true) × (down_of es g ≡ Some place)
found_at es s g group place found = go (holds s g) refl (down_of es g) refl found
  where
    go : (b : Bool) → holds s g ≡ b → (o : Option Place) → down_of es g ≡ o → (if b then option_map (λ p. Busy (group_no g) p) o else None) ≡ Some (Busy group place) → (g ≡ group.0) × (holds s g ≡ true) × (down_of es g ≡ Some place)
    go true held None down h = absurd (cc)
    go true held (Some p) down h =
        let same : group_no g ≡ group = cc in
        let at : p ≡ place = cc in
        (ap (λ (x : GroupNo). x.0) same, held, down ∙ ap (λ x. Some x) at)
    go false held o down h = absurd (cc)

found_from : (es : List Entry) (s : Scope) (n g : ℕ) (group : GroupNo) (place : Place) → busy_from es s g n ≡ Some (Busy group place) → IsLeastFrom es s g n group place
found_from es s zero g group place found = absurd (cc)
found_from es s (suc n) g group place found = go (busy_at es s g) refl found (found_from es s n (g + 1) group place)
  where
    go : (o : Option RebootRefusal) → busy_at es s g ≡ o → first_of (o ∷ busy_from es s (g + 1) n ∷ []) ≡ Some (Busy group place) → (busy_from es s (g + 1) n ≡ Some (Busy group place) → IsLeastFrom es s (g + 1) n group place) → IsLeastFrom es s g (suc n) group place
    go None is h later =
        let next = later (sym (first_alone (busy_from es s (g + 1) n)) ∙ h) in
        record {
          from = omega (arith, next.from);
          within = omega (arith, next.within);
          held = next.held;
          down = next.down;
          least = λ k le lt held. elim (cases_lt g k) [
            | inl after ↦ next.least k (omega arith) lt held
            | inr not_after ↦ (
                let same : g ≡ k = omega arith in
                let P : ℕ → Type 0 = λ z. holds s z ≡ true → down_of es z ≡ None in
                subst P same (at_none es s g is) held)
          ];
        }
    go (Some r) is h later =
        let here = found_at es s g group place (is ∙ h) in
        let P : ℕ → Type 0 = λ z. (holds s z ≡ true) × (down_of es z ≡ Some place) in
        let there : (holds s group.0 ≡ true) × (down_of es group.0 ≡ Some place) = subst P here.0 (here.1, here.2) in
        record {
          from = omega (arith, here.0);
          within = omega (arith, here.0);
          held = there.0;
          down = there.1;
          least = λ k le lt held. absurd (omega (arith, here.0));
        }

pub busy_least : (es : List Entry) (s : Scope) (group : GroupNo) (place : Place) → busy es s ≡ Some (Busy group place) → IsLeastDown es s group place
busy_least es s group place found =
    let at = found_from es s MAX_GROUPS 0 group place (sym (busy_first es s) ∙ found) in
    record { within = omega (arith, at.within); held = at.held; down = at.down; least = λ g lt held. at.least g (omega arith) lt held }

-- the least group that is down is found

least_from : (es : List Entry) (s : Scope) (n g : ℕ) (group : GroupNo) (place : Place) → g ≤ group.0 → group.0 < g + n → holds s group.0 ≡ true → down_of es group.0 ≡ Some place
    → ((h : ℕ) → h < group.0 → holds s h ≡ true → down_of es h ≡ None) → busy_from es s g n ≡ Some (Busy group place)
least_from es s zero g group place le lt held down least = absurd (omega arith)
least_from es s (suc n) g group place le lt held down least = elim (cases_lt g group.0) [
  | inl before ↦ (
      let none : busy_at es s g ≡ None = at_up g (least g before) in
      ap (λ o. first_of (o ∷ busy_from es s (g + 1) n ∷ [])) none ∙ first_alone (busy_from es s (g + 1) n) ∙ least_from es s n (g + 1) group place (omega arith) (omega arith) held down least)
  | inr not_before ↦ (
      let same : group.0 ≡ g = omega arith in
      ap (λ o. first_of (o ∷ busy_from es s (g + 1) n ∷ [])) (at_down g same))
]
  where
    at_up : (h : ℕ) → (holds s h ≡ true → down_of es h ≡ None) → busy_at es s h ≡ None
    at_up h up = go (holds s h) refl
      where
        go : (b : Bool) → holds s h ≡ b → (if b then option_map (λ p. Busy (group_no h) p) (down_of es h) else None) ≡ None
        go true is = ap (option_map (λ p. Busy (group_no h) p)) (up is)
        go false is = refl

    at_down : (h : ℕ) → group.0 ≡ h → busy_at es s h ≡ Some (Busy group place)
    at_down h same =
        let P : ℕ → Type 0 = λ z. busy_at es s z ≡ Some (Busy (group_no z) place) in
        let here : busy_at es s group.0 ≡ Some (Busy (group_no group.0) place) = ap (λ b. if b then option_map (λ p. Busy (group_no group.0) p) (down_of es group.0) else None) held ∙ ap (option_map (λ p. Busy (group_no group.0) p)) down in
        subst P same here ∙ ap (λ z. Some (Busy (group_no z) place)) (sym same)

pub least_busy : (es : List Entry) (s : Scope) (group : GroupNo) (place : Place) → IsLeastDown es s group place → busy es s ≡ Some (Busy group place)
least_busy es s group place at = busy_first es s ∙ least_from es s MAX_GROUPS 0 group place (omega arith) (omega (arith, at.within)) at.held at.down at.least
