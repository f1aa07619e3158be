-- What reboots cure.
use Rattle.std.proofs.Common.{◌≡◌, ◌⊎◌, ◌↔◌, ℕ, ◌<◌, ◌≤◌, nat_le, Bool, true, false, not, cond, ◌&&◌, ◌||◌, List, [], ◌∷◌, ◌++◌, length, get_or, Option, Some, None, inl, inr, refl, sym, ap, ◌∙◌, arith}
use Rattle.std.specs.List.{All}
use Rattle.std.proofs.lemmas.Bool.{false≢true}
use Rattle.std.proofs.lemmas.Bool.Decides.{nat_tests}
use Rattle.std.proofs.lemmas.List.Folds.{list_any-append, list_any_none, list_any_at}
use Rattle.crash_base.specs.declared.fault_plans.FaultPlan.{FaultPlan}
use Rattle.crash_base.specs.declared.numbers.GroupNo.{GroupNo}
use Rattle.crash_base.specs.declared.numbers.Level.{Level}
use Rattle.crash_base.specs.declared.numbers.Level.TheVariants.{Group, App, Process, Human}
use Rattle.component_pool.specs.Cures.{width, cures, one_cures, widest_cures, wider}
use Rattle.component_pool.specs.Plans.{is_active, outlives_process}

or_false : (b : Bool) → (b || false) ≡ b
or_false true = refl
or_false false = refl

and_false : (b : Bool) → (b && false) ≡ false
and_false true = refl
and_false false = refl

wide : (x y n : ℕ) → nat_le y x ≡ true → nat_le n x ≡ (nat_le n x || nat_le n y)
wide x y n h = grind (arith, nat_tests)

narrow : (x y n : ℕ) → nat_le y x ≡ false → nat_le n y ≡ (nat_le n x || nat_le n y)
narrow x y n h = grind (arith, nat_tests)

-- the wider of two levels cures what one of them does
pub wider_cures : (widest : Option Level) (level cured_by : Level) → widest_cures (Some (wider widest level)) cured_by ≡ (widest_cures widest cured_by || cures level cured_by)
wider_cures None level cured_by = refl
wider_cures (Some widest) level cured_by = go (cures widest level) refl
  where
    go : (b : Bool) → cures widest level ≡ b → cures (cond b widest level) cured_by ≡ (cures widest cured_by || cures level cured_by)
    go true is = wide (width widest) (width level) (width cured_by) is
    go false is = narrow (width widest) (width level) (width cured_by) is

-- one reboot more cures what it cures
pub one_more_cures : (reboots : List Level) (level cured_by : Level) → one_cures (reboots ++ level ∷ []) cured_by ≡ (one_cures reboots cured_by || cures level cured_by)
one_more_cures reboots level cured_by =
    list_any-append (λ l. cures l cured_by) reboots (level ∷ []) ∙ ap (λ b. one_cures reboots cured_by || b) (or_false (cures level cured_by))

-- none of these reboots cures it
pub none_cures : (reboots : List Level) (cured_by : Level) → one_cures reboots cured_by ≡ false → All (λ level. cures level cured_by ≡ false) reboots
none_cures reboots cured_by none = λ k d within. go k d within (cures (get_or reboots k d) cured_by) refl
  where
    go : (k : ℕ) (d : Level) → k < length reboots → (b : Bool) → cures (get_or reboots k d) cured_by ≡ b → cures (get_or reboots k d) cured_by ≡ false
    go k d within true is = absurd (false≢true (sym none ∙ list_any_at (λ l. cures l cured_by) reboots k d within is))
    go k d within false is = is

active_parts : (entered : ℕ) (after : ℕ) (cured : Bool) → (nat_le after entered && not cured) ≡ true → (after ≤ entered) × (cured ≡ false)
active_parts entered after true h = absurd (false≢true (sym (and_false (nat_le after entered)) ∙ h))
active_parts entered after false h = (grind (arith, nat_tests), refl)

active_whole : (entered : ℕ) (after : ℕ) (cured : Bool) → after ≤ entered → cured ≡ false → (nat_le after entered && not cured) ≡ true
active_whole entered after true h e = absurd (false≢true (sym e))
active_whole entered after false h e = grind (arith, nat_tests)

pub active_exactly : (entered : ℕ) (reboots : List Level) (plan : FaultPlan) → (is_active entered reboots plan ≡ true) ↔ ((plan.after ≤ entered) × All (λ level. cures level plan.cured_by ≡ false) reboots)
active_exactly entered reboots plan = (
  λ h. let parts = active_parts entered plan.after (one_cures reboots plan.cured_by) h in (parts.0, none_cures reboots plan.cured_by parts.1),
  λ h. active_whole entered plan.after (one_cures reboots plan.cured_by) h.0 (list_any_none (λ l. cures l plan.cured_by) reboots h.1),
)

or_true : (b : Bool) → (b || true) ≡ true
or_true true = refl
or_true false = refl

pub cured_for_good : (entered : ℕ) (before later : List Level) (level : Level) (plan : FaultPlan) → cures level plan.cured_by ≡ true → is_active entered (before ++ level ∷ later) plan ≡ false
cured_for_good entered before later level plan is =
    let one : one_cures (before ++ level ∷ later) plan.cured_by ≡ true =
    list_any-append (λ l. cures l plan.cured_by) before (level ∷ later)
    ∙ ap (λ b. one_cures before plan.cured_by || (b || one_cures later plan.cured_by)) is
    ∙ or_true (one_cures before plan.cured_by) in
    ap (λ b. nat_le plan.after entered && not b) one ∙ and_false (nat_le plan.after entered)

pub active_still : (entered : ℕ) (before : List Level) (level : Level) (plan : FaultPlan) → cures level plan.cured_by ≡ false → is_active entered (before ++ level ∷ []) plan ≡ is_active entered before plan
active_still entered before level plan is =
    let same : one_cures (before ++ level ∷ []) plan.cured_by ≡ one_cures before plan.cured_by =
    one_more_cures before level plan.cured_by ∙ ap (λ b. one_cures before plan.cured_by || b) is ∙ or_false (one_cures before plan.cured_by) in
    ap (λ b. nat_le plan.after entered && not b) same

-- level by level
pub app_not_cured : (level : Level) → (cures level App ≡ false) ↔ ((g : GroupNo) × (level ≡ Group g))
app_not_cured (Group g) = (λ _. (g, refl), λ _. refl)
app_not_cured App = (λ h. absurd (false≢true (sym h)), λ h. let e = h.1 in absurd (cc))
app_not_cured Process = (λ h. absurd (false≢true (sym h)), λ h. let e = h.1 in absurd (cc))
app_not_cured Human = (λ h. absurd (false≢true (sym h)), λ h. let e = h.1 in absurd (cc))

either_no : {A B : Type 0} → ¬ A → ¬ B → ¬ (A ⊎ B)
either_no na nb (inl a) = na a
either_no na nb (inr b) = nb b

pub process_cured : (level : Level) → (cures level Process ≡ true) ↔ ((level ≡ Process) ⊎ (level ≡ Human))
process_cured (Group g) = (λ h. absurd (false≢true h), λ h. absurd (either_no (λ e. cc) (λ e. cc) h))
process_cured App = (λ h. absurd (false≢true h), λ h. absurd (either_no (λ e. cc) (λ e. cc) h))
process_cured Process = (λ _. inl refl, λ _. refl)
process_cured Human = (λ _. inr refl, λ _. refl)

pub human_cured : (level : Level) → (cures level Human ≡ true) ↔ (level ≡ Human)
human_cured (Group g) = (λ h. absurd (false≢true h), λ e. absurd (cc))
human_cured App = (λ h. absurd (false≢true h), λ e. absurd (cc))
human_cured Process = (λ h. absurd (false≢true h), λ e. absurd (cc))
human_cured Human = (λ _. refl, λ _. refl)

left_level : (level : Level) → (not (cures Process level) ≡ true) ↔ (level ≡ Human)
left_level (Group g) = (λ h. absurd (false≢true h), λ e. absurd (cc))
left_level App = (λ h. absurd (false≢true h), λ e. absurd (cc))
left_level Process = (λ h. absurd (false≢true h), λ e. absurd (cc))
left_level Human = (λ _. refl, λ _. refl)

pub left_exactly : (plan : FaultPlan) → (outlives_process plan ≡ true) ↔ (plan.cured_by ≡ Human)
left_exactly plan = left_level plan.cured_by
