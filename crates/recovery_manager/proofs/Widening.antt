-- Which acts count for the level of the next reboot.
use Rattle.std.proofs.Common.{◌≡◌, ◌∙◌, ◌≢◌, ℕ, ◌+◌, ◌<◌, ◌≤◌, ◌==◌, ◌&&◌, ◌||◌, Bool, true, false, cond, List, [], ◌∷◌, ◌++◌, filter, Contains, All, refl, sym, ap, subst, arith}
use Rattle.std.specs.List.{list_any}
use Rattle.std.proofs.lemmas.Bool.Decides.{nat_tests}
use Rattle.std.proofs.lemmas.List.Elements.{All-weaker}
use Rattle.std.proofs.lemmas.List.Folds.{list_any-append, list_any_at, list_any_none}
use Rattle.crash_base.specs.declared.numbers.GroupNo.{GroupNo}
use Rattle.crash_base.specs.declared.numbers.Level.{Level}
use Rattle.crash_base.specs.declared.numbers.Level.TheVariants.{Group, App, Process, Human}
use Rattle.crash_base.specs.declared.numbers.Moment.{Moment}
use Rattle.failure_scores.proofs.Counting.{and_first, and_second, and_of, and_lacking, and_without, same_number, not_within, within_before}
use Rattle.recovery_manager.specs.declared.acts.TheConstants.{WIDENED_MILLISECONDS}
use Rattle.recovery_manager.specs.declared.acts.Act.{Act}
use Rattle.recovery_manager.specs.Levels.{is_recent, same_level, has_act, next_level, level_holds, width, one_wider, counts_for}

equal_numbers : (m n : ℕ) → (m == n) ≡ true → m ≡ n
equal_numbers m n same = grind (arith, nat_tests)

pub one_group : (g h : GroupNo) → g.0 ≡ h.0 → g ≡ h
one_group g h same = let numbered : ℕ → GroupNo = λ n. record { 0 = n } in ap numbered same

other_group : (g h : GroupNo) → h ≢ g → (h.0 == g.0) ≡ false
other_group g h apart = go (h.0 == g.0) refl
  where
    go : (b : Bool) → (h.0 == g.0) ≡ b → (h.0 == g.0) ≡ false
    go true same = absurd (apart (one_group h g (equal_numbers h.0 g.0 same)))
    go false same = same

same_self : (a : Level) → same_level a a ≡ true
same_self (Group g) = same_number g.0
same_self App = refl
same_self Process = refl
same_self Human = refl

-- levels that are one reboot the same groups
same_holds : (a b : Level) (g : ℕ) → same_level a b ≡ true → level_holds a g ≡ level_holds b g
same_holds (Group h) (Group k) g same = ap (λ (n : ℕ). n == g) (equal_numbers h.0 k.0 same)
same_holds App App g same = refl
same_holds Process Process g same = refl
same_holds Human Human g same = refl
same_holds a b g same = let wrong : false ≡ true = same in cc

-- levels that are one are as wide
same_width : (a b : Level) → same_level a b ≡ true → width a ≡ width b
same_width (Group h) (Group k) same = refl
same_width App App same = refl
same_width Process Process same = refl
same_width Human Human same = refl
same_width a b same = let wrong : false ≡ true = same in cc

not_both : (b s h : Bool) → (s ≡ true → h ≡ true) → (b && h) ≡ false → (b && s) ≡ false
not_both true true h holds fails = let wrong : h ≡ true = holds refl in cc
not_both true false h holds fails = refl
not_both false s h holds fails = refl

-- the level that comes next, by whether there are acts of each level
abbrev next_by : GroupNo → Bool → Bool → Bool → Bool → Level
next_by group human process app own = cond human Human (cond process Human (cond app Process (cond own App (Group group))))

four : {X : Type 0} (f : Bool → Bool → Bool → Bool → X) (a b c d a' b' c' d' : Bool) → a ≡ a' → b ≡ b' → c ≡ c' → d ≡ d' → f a b c d ≡ f a' b' c' d'
four {X} f a b c d a' b' c' d' p q r s = ap (λ (x : Bool). f x b c d) p ∙ ap (λ (x : Bool). f a' x c d) q ∙ ap (λ (x : Bool). f a' b' x d) r ∙ ap (λ (x : Bool). f a' b' c' x) s

next_tests : (acts : List Act) (group : GroupNo) (now : Moment) (human process app own : Bool) → has_act acts Human now ≡ human → has_act acts Process now ≡ process → has_act acts App now ≡ app → has_act acts (Group group) now ≡ own → next_level acts group now ≡ next_by group human process app own
next_tests acts group now human process app own p q r s = four (next_by group) (has_act acts Human now) (has_act acts Process now) (has_act acts App now) (has_act acts (Group group) now) human process app own p q r s

-- where no act counts for a group, there is none of a level that reboots it
none_of : (acts : List Act) (g : ℕ) (now : Moment) (level : Level) → level_holds level g ≡ true → All (λ (a : Act). counts_for g now a ≡ false) acts → has_act acts level now ≡ false
none_of acts g now level holds all =
    list_any_none (λ (a : Act). is_recent now a && same_level a.level level) acts (All-weaker (λ (a : Act). counts_for g now a ≡ false) (λ (a : Act). (is_recent now a && same_level a.level level) ≡ false) (λ a fails. not_both (is_recent now a) (same_level a.level level) (level_holds a.level g) (λ same. same_holds a.level level g same ∙ holds) fails) acts all)

pub first_level : (acts : List Act) (group : GroupNo) (now : Moment) → All (λ (a : Act). counts_for group.0 now a ≡ false) acts → next_level acts group now ≡ Group group
first_level acts group now all =
    next_tests acts group now false false false false (none_of acts group.0 now Human refl all) (none_of acts group.0 now Process refl all) (none_of acts group.0 now App refl all) (none_of acts group.0 now (Group group) (same_number group.0) all)

-- there is an act of a level where one is recent
some_of : (acts : List Act) (now : Moment) (a : Act) (level : Level) → Contains acts a → is_recent now a ≡ true → a.level ≡ level → has_act acts level now ≡ true
some_of acts now a level has recent same =
    let passes : (is_recent now a && same_level a.level level) ≡ true = and_of (is_recent now a) (same_level a.level level) recent (ap (λ (l : Level). same_level a.level l) (sym same) ∙ same_self a.level) in
    list_any_at (λ (b : Act). is_recent now b && same_level b.level level) acts has.0 a has.1 (subst (λ (b : Act). (is_recent now b && same_level b.level level) ≡ true) (sym has.2) passes)

-- where no act that counts is so wide as a level that reboots the group, there is none of this level
none_wider : (acts : List Act) (g : ℕ) (now : Moment) (level : Level) (w : ℕ) → level_holds level g ≡ true → w < width level → All (λ (a : Act). counts_for g now a ≡ true → width a.level ≤ w) acts → has_act acts level now ≡ false
none_wider acts g now level w holds wide all =
    list_any_none (λ (a : Act). is_recent now a && same_level a.level level) acts (All-weaker (λ (a : Act). counts_for g now a ≡ true → width a.level ≤ w) (λ (a : Act). (is_recent now a && same_level a.level level) ≡ false) (λ a few. go a few (is_recent now a) (same_level a.level level) refl refl) acts all)
  where
    too_wide : (a : Act) → width a.level ≤ w → width a.level ≡ width level → ⊥
    too_wide a few same = omega arith

    go : (a : Act) → (counts_for g now a ≡ true → width a.level ≤ w) → (b s : Bool) → is_recent now a ≡ b → same_level a.level level ≡ s → (b && s) ≡ false
    go a few true true recent same = absurd (too_wide a (few (and_of (is_recent now a) (level_holds a.level g) recent (same_holds a.level level g same ∙ holds))) (same_width a.level level same))
    go a few true false recent same = refl
    go a few false s recent same = refl

either_human : (b : Bool) (group : GroupNo) (app own : Bool) → next_by group b true app own ≡ Human
either_human true group app own = refl
either_human false group app own = refl

pub wider_level : (acts : List Act) (group : GroupNo) (now : Moment) (widest : Act) → Contains acts widest → counts_for group.0 now widest ≡ true → All (λ (a : Act). counts_for group.0 now a ≡ true → width a.level ≤ width widest.level) acts → next_level acts group now ≡ one_wider widest.level
wider_level acts group now widest has counts all = go widest.level refl
  where
    recent : is_recent now widest ≡ true
    recent = and_first (is_recent now widest) (level_holds widest.level group.0) counts

    holds : level_holds widest.level group.0 ≡ true
    holds = and_second (is_recent now widest) (level_holds widest.level group.0) counts

    none : (level : Level) (w : ℕ) → width widest.level ≡ w → level_holds level group.0 ≡ true → w < width level → has_act acts level now ≡ false
    none level w same reboots wide = none_wider acts group.0 now level w reboots wide (All-weaker (λ (a : Act). counts_for group.0 now a ≡ true → width a.level ≤ width widest.level) (λ (a : Act). counts_for group.0 now a ≡ true → width a.level ≤ w) (λ a few counted. subst (λ (k : ℕ). width a.level ≤ k) same (few counted)) acts all)

    go : (level : Level) → widest.level ≡ level → next_level acts group now ≡ one_wider level
    go Human same = next_tests acts group now true (has_act acts Process now) (has_act acts App now) (has_act acts (Group group) now) (some_of acts now widest Human has recent same) refl refl refl
    go Process same = next_tests acts group now (has_act acts Human now) true (has_act acts App now) (has_act acts (Group group) now) refl (some_of acts now widest Process has recent same) refl refl ∙ either_human (has_act acts Human now) group (has_act acts App now) (has_act acts (Group group) now)
    go App same = next_tests acts group now false false true (has_act acts (Group group) now) (none Human 1 (ap width same) refl (omega arith)) (none Process 1 (ap width same) refl (omega arith)) (some_of acts now widest App has recent same) refl
    go (Group h) same =
        let own : h ≡ group = one_group h group (equal_numbers h.0 group.0 (ap (λ (l : Level). level_holds l group.0) (sym same) ∙ holds)) in
        let level : widest.level ≡ Group group = same ∙ ap (λ (k : GroupNo). Group k) own in
        next_tests acts group now false false false true (none Human 0 (ap width same) refl (omega arith)) (none Process 0 (ap width same) refl (omega arith)) (none App 0 (ap width same) refl (omega arith)) (some_of acts now widest (Group group) has recent level)

any_without : {X : Type 0} (p : X → Bool) (before after : List X) (x : X) → p x ≡ false → list_any p (before ++ x ∷ after) ≡ list_any p (before ++ after)
any_without {X} p before after x fails = list_any-append p before (x ∷ after) ∙ ap (λ (b : Bool). list_any p before || (b || list_any p after)) fails ∙ sym (list_any-append p before after)

without : (before after : List Act) (a : Act) (now : Moment) (level : Level) → (is_recent now a && same_level a.level level) ≡ false → has_act (before ++ a ∷ after) level now ≡ has_act (before ++ after) level now
without before after a now level fails = any_without (λ (b : Act). is_recent now b && same_level b.level level) before after a fails

next_without : (before after : List Act) (a : Act) (group : GroupNo) (now : Moment) → counts_for group.0 now a ≡ false → next_level (before ++ a ∷ after) group now ≡ next_level (before ++ after) group now
next_without before after a group now fails = next_tests (before ++ a ∷ after) group now (has_act (before ++ after) Human now) (has_act (before ++ after) Process now) (has_act (before ++ after) App now) (has_act (before ++ after) (Group group) now) (same Human refl) (same Process refl) (same App refl) (same (Group group) (same_number group.0))
  where
    same : (level : Level) → level_holds level group.0 ≡ true → has_act (before ++ a ∷ after) level now ≡ has_act (before ++ after) level now
    same level holds = without before after a now level (not_both (is_recent now a) (same_level a.level level) (level_holds a.level group.0) (λ one. same_holds a.level level group.0 one ∙ holds) fails)

pub next_old : (before after : List Act) (a : Act) (group : GroupNo) (now : Moment) → a.moment.0 + WIDENED_MILLISECONDS < now.0 → next_level (before ++ a ∷ after) group now ≡ next_level (before ++ after) group now
next_old before after a group now late = next_without before after a group now (and_lacking (is_recent now a) (level_holds a.level group.0) (not_within now.0 a.moment.0 WIDENED_MILLISECONDS late))

pub next_elsewhere : (before after : List Act) (a : Act) (group other : GroupNo) (now : Moment) → a.level ≡ Group other → other ≢ group → next_level (before ++ a ∷ after) group now ≡ next_level (before ++ after) group now
next_elsewhere before after a group other now same apart = next_without before after a group now (and_without (is_recent now a) (level_holds a.level group.0) (ap (λ (l : Level). level_holds l group.0) same ∙ other_group group other apart))

-- where each element that passes the one test passes the other, filtering by the other changes nothing of whether one
-- passes
any_within : {X : Type 0} (p q : X → Bool) → ((x : X) → p x ≡ true → q x ≡ true) → (xs : List X) → list_any p (filter q xs) ≡ list_any p xs
any_within {X} p q implied [] = refl
any_within {X} p q implied (x ∷ xs) = go (any_within p q implied xs) (q x) refl
  where
    lacking : q x ≡ false → (b : Bool) → p x ≡ b → p x ≡ false
    lacking fails true passes = let wrong : q x ≡ true = implied x passes in cc
    lacking fails false same = same

    go : list_any p (filter q xs) ≡ list_any p xs → (b : Bool) → q x ≡ b → list_any p (cond b (x ∷ filter q xs) (filter q xs)) ≡ (p x || list_any p xs)
    go rest true passes = ap (λ (b : Bool). p x || b) rest
    go rest false fails = rest ∙ sym (ap (λ (b : Bool). b || list_any p xs) (lacking fails (p x) refl))

-- acts that are old at a moment widen nothing from then on
pub next_kept : (acts : List Act) (group : GroupNo) (then now : Moment) → then.0 ≤ now.0 → next_level (filter (is_recent then) acts) group now ≡ next_level acts group now
next_kept acts group then now earlier = next_tests (filter (is_recent then) acts) group now (has_act acts Human now) (has_act acts Process now) (has_act acts App now) (has_act acts (Group group) now) (same Human) (same Process) (same App) (same (Group group))
  where
    same : (level : Level) → has_act (filter (is_recent then) acts) level now ≡ has_act acts level now
    same level = any_within (λ (a : Act). is_recent now a && same_level a.level level) (is_recent then) (λ a passes. within_before then.0 now.0 a.moment.0 WIDENED_MILLISECONDS earlier (and_first (is_recent now a) (same_level a.level level) passes)) acts
