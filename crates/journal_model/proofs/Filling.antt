-- How full a journal is with one entry more.
use Rattle.std.proofs.Common.{◌≡◌, ℕ, zero, suc, ◌+◌, ◌&&◌, not, Bool, true, false, if◌then◌else◌, List, [], ◌∷◌, ◌++◌, Some, refl, sym, ap, ◌∙◌, arith}
use Rattle.std.specs.List.{list_any}
use Rattle.std.proofs.lemmas.Grind.{common_steps}
use Rattle.std.proofs.lemmas.List.Folds.{list_any-append}
use Rattle.std.proofs.lemmas.List.Sums.{sum_by-append}
use Rattle.crash_base.specs.declared.scope.Scope.{Scope}
use Rattle.crash_base.specs.Scope.{same_scope}
use Rattle.journal_model.specs.declared.entry.CommitEntry.{CommitEntry}
use Rattle.journal_model.specs.declared.entry.Entry.{Entry}
use Rattle.journal_model.specs.declared.entry.Entry.TheVariants.{Commit, Down, Up}
use Rattle.journal_model.specs.Legal.{AreInTurn, MayEnd}
use Rattle.journal_model.specs.Limits.{undone_downs, bytes_of, entry_bytes}
use Rattle.journal_model.specs.Reboots.{is_up_of, IsUndone}
use Rattle.journal_model.proofs.OneDown.{one_undone}
use Rattle.journal_model.proofs.Scopes.{same_scope-self, same_scope-true}
use Rattle.journal_model.proofs.Undone.{undone_tail, undone_more}

pub bytes_of-push : (es : List Entry) (e : Entry) → bytes_of (es ++ e ∷ []) ≡ bytes_of es + entry_bytes e
bytes_of-push es e = omega (arith, sum_by-append entry_bytes es (e ∷ []))

pub undone_downs-commit : (es : List Entry) (c : CommitEntry) → undone_downs (es ++ Commit c ∷ []) ≡ undone_downs es
undone_downs-commit [] c = refl
undone_downs-commit (Commit e ∷ es) c = omega (arith, undone_downs-commit es c)
undone_downs-commit (Down s ∷ es) c = grind (arith, common_steps, list_any-append (is_up_of s) es (Commit c ∷ []), undone_downs-commit es c)
undone_downs-commit (Up s ∷ es) c = omega (arith, undone_downs-commit es c)

pub undone_downs-down : (es : List Entry) (s : Scope) → undone_downs (es ++ Down s ∷ []) ≡ undone_downs es + 1
undone_downs-down [] s = refl
undone_downs-down (Commit e ∷ es) s = omega (arith, undone_downs-down es s)
undone_downs-down (Down r ∷ es) s = grind (arith, common_steps, list_any-append (is_up_of r) es (Down s ∷ []), undone_downs-down es s)
undone_downs-down (Up r ∷ es) s = omega (arith, undone_downs-down es s)

-- the number of undone Downs of a scope
abbrev undone_count : Scope → List Entry → ℕ
undone_count s [] = 0
undone_count s (Commit e ∷ es) = undone_count s es
undone_count s (Down r ∷ es) = (if same_scope r s && not (list_any (is_up_of r) es) then 1 else 0) + undone_count s es
undone_count s (Up r ∷ es) = undone_count s es

-- an Up ends all of its scope
undone_downs-ends : (es : List Entry) (s : Scope) → undone_downs (es ++ Up s ∷ []) + undone_count s es ≡ undone_downs es
undone_downs-ends [] s = refl
undone_downs-ends (Commit e ∷ es) s = omega (arith, undone_downs-ends es s)
undone_downs-ends (Down r ∷ es) s = grind (arith, common_steps, list_any-append (is_up_of r) es (Up s ∷ []), undone_downs-ends es s)
undone_downs-ends (Up r ∷ es) s = omega (arith, undone_downs-ends es s)

count_none : (es : List Entry) (s : Scope) → ((i : ℕ) → ¬ IsUndone es i s) → undone_count s es ≡ 0
count_none [] s never = refl
count_none (Commit e ∷ es) s never = count_none es s (λ i u. never (suc i) (undone_more (Commit e) es i s u))
count_none (Up r ∷ es) s never = count_none es s (λ i u. never (suc i) (undone_more (Up r) es i s u))
count_none (Down r ∷ es) s never =
    go (same_scope r s) (list_any (is_up_of r) es) refl refl (count_none es s (λ i u. never (suc i) (undone_more (Down r) es i s u)))
  where
    go : (a b : Bool) → same_scope r s ≡ a → list_any (is_up_of r) es ≡ b → undone_count s es ≡ 0 → (if a && not b then 1 else 0) + undone_count s es ≡ 0
    go true true same up none = omega arith
    go true false same up none =
        let is : r ≡ s = same_scope-true r s same in
        absurd (never 0 (record { down = ap (λ x. Some (Down x)) is; not_up = ap (λ x. list_any (is_up_of x) es) (sym is) ∙ up }))
    go false b same up none = omega arith

count_one : (es : List Entry) (s : Scope) (k : ℕ) → IsUndone es k s → ((i j : ℕ) → IsUndone es i s → IsUndone es j s → i ≡ j) → undone_count s es ≡ 1
count_one [] s k undone one = absurd (let is = undone.down in cc)
count_one (Commit e ∷ es) s zero undone one = absurd (let is : Some (Commit e) ≡ Some (Down s) = undone.down in cc)
count_one (Commit e ∷ es) s (suc k) undone one = count_one es s k (undone_tail (Commit e) es k s undone) (λ i j u v. omega (arith, one (suc i) (suc j) (undone_more (Commit e) es i s u) (undone_more (Commit e) es j s v)))
count_one (Up r ∷ es) s zero undone one = absurd (let is : Some (Up r) ≡ Some (Down s) = undone.down in cc)
count_one (Up r ∷ es) s (suc k) undone one = count_one es s k (undone_tail (Up r) es k s undone) (λ i j u v. omega (arith, one (suc i) (suc j) (undone_more (Up r) es i s u) (undone_more (Up r) es j s v)))
count_one (Down r ∷ es) s zero undone one =
    let is : Some (Down r) ≡ Some (Down s) = undone.down in
    let scope : s ≡ r = cc in
    let same : same_scope r s ≡ true = ap (same_scope r) scope ∙ same_scope-self r in
    let not_up : list_any (is_up_of s) es ≡ false = undone.not_up in
    let here : list_any (is_up_of r) es ≡ false = ap (λ x. list_any (is_up_of x) es) (sym scope) ∙ not_up in
    let later : undone_count s es ≡ 0 = count_none es s (λ i u. absurd (omega (arith, one 0 (suc i) undone (undone_more (Down r) es i s u)))) in
    rw (same, here) (omega (arith, later))
count_one (Down r ∷ es) s (suc k) undone one =
    go (same_scope r s) (list_any (is_up_of r) es) refl refl (count_one es s k (undone_tail (Down r) es k s undone) (λ i j u v. omega (arith, one (suc i) (suc j) (undone_more (Down r) es i s u) (undone_more (Down r) es j s v))))
  where
    go : (a b : Bool) → same_scope r s ≡ a → list_any (is_up_of r) es ≡ b → undone_count s es ≡ 1 → (if a && not b then 1 else 0) + undone_count s es ≡ 1
    go true true same up later = omega arith
    go true false same up later =
        let is : r ≡ s = same_scope-true r s same in
        absurd (omega (arith, one 0 (suc k) (record { down = ap (λ x. Some (Down x)) is; not_up = ap (λ x. list_any (is_up_of x) es) (sym is) ∙ up }) undone))
    go false b same up later = omega arith

pub undone_downs-up : (es : List Entry) (s : Scope) → AreInTurn es → MayEnd es s → undone_downs (es ++ Up s ∷ []) + 1 ≡ undone_downs es
undone_downs-up es s turns may = omega (arith, undone_downs-ends es s, count_one es s may.place may.undone (λ i j u v. one_undone es s i j turns u v))
