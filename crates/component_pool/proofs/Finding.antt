-- The first active plan.
use Rattle.std.proofs.Common.{◌≡◌, ℕ, suc, ◌+◌, ◌-◌, ◌^◌, ◌<◌, nat_le, nat_lt, min, ◌==◌, Bool, true, false, not, cond, ◌&&◌, if◌then◌else◌, List, [], ◌∷◌, length, get_or, take, slice_get, Option, Some, None, option_map, inl, inr, refl, sym, ap, ◌∙◌, subst, arith}
use Rattle.std.specs.List.{All, position, position_or_len}
use Rattle.std.specs.Option.{option_and_then}
use Rattle.std.proofs.lemmas.Bool.Decides.{nat_tests}
use Rattle.std.proofs.lemmas.List.{get_or-take, length-take}
use Rattle.std.proofs.lemmas.List.Elements.{All-head, All-tail}
use Rattle.std.proofs.lemmas.List.Sums.{fails_before_first, position_or_len_is}
use Rattle.std.proofs.lemmas.Option.{slice_get_cases, slice_get_within, get_or_from_slice_get}
use Rattle.crash_base.proofs.Options.{then_some, map_some}
use Rattle.crash_base.proofs.Positions.{position-cons, position-none, position-some, position-passes}
use Rattle.crash_base.specs.declared.fault_plans.FaultKind.{FaultKind}
use Rattle.crash_base.specs.declared.fault_plans.FaultPlan.{FaultPlan}
use Rattle.crash_base.specs.declared.numbers.Level.{Level}
use Rattle.component_pool.specs.Cures.{one_cures}
use Rattle.component_pool.specs.Plans.{makes_fail, plan_at, active_plan, counted, IsFirstActive}

-- searches by tests that answer alike find the same place
pub position_alike : {X : Type 0} (p q : X → Bool) (xs : List X) → All (λ x. p x ≡ q x) xs → position p xs ≡ position q xs
position_alike p q [] alike = refl
position_alike {X} p q (x ∷ xs) alike =
    let P : X → Type 0 = λ y. p y ≡ q y in
    position-cons p x xs
    ∙ ap (λ b. if b then Some 0 else option_map suc (position p xs)) (All-head P x xs alike)
    ∙ ap (λ o. if q x then Some 0 else option_map suc o) (position_alike p q xs (All-tail P x xs alike))
    ∙ sym (position-cons q x xs)

-- a search that comes to a place answers it
position_is : {X : Type 0} (p : X → Bool) (xs : List X) (i : ℕ) → position_or_len p xs ≡ i → i < length xs → position p xs ≡ Some i
position_is p xs i is within = go (position_or_len p xs) is
  where
    go : (n : ℕ) → n ≡ i → cond (nat_lt n (length xs)) (Some n) None ≡ Some i
    go n e = let P : ℕ → Type 0 = λ m. cond (nat_lt m (length xs)) (Some m) None ≡ Some i in subst P (sym e) (grind (arith, nat_tests))

position_at_end : {X : Type 0} (p : X → Bool) (xs : List X) → position_or_len p xs ≡ length xs → position p xs ≡ None
position_at_end p xs is = go (position_or_len p xs) is
  where
    go : (n : ℕ) → n ≡ length xs → cond (nat_lt n (length xs)) (Some n) None ≡ None
    go n e = grind (arith, nat_tests)

-- what is not found fails the test everywhere, and the other way round
not_found : {X : Type 0} (p : X → Bool) (xs : List X) → position p xs ≡ None → All (λ x. p x ≡ false) xs
not_found p xs none = λ k d within. fails_before_first p xs k d (omega (arith, position-none p xs none))

pub found_nowhere : {X : Type 0} (p : X → Bool) (xs : List X) → All (λ x. p x ≡ false) xs → position p xs ≡ None
found_nowhere {X} p xs fails = go xs fails
  where
    go : (ys : List X) → All (λ x. p x ≡ false) ys → position p ys ≡ None
    go [] f = refl
    go (y ∷ ys) f =
        let P : X → Type 0 = λ x. p x ≡ false in
        position-cons p y ys
        ∙ ap (λ b. if b then Some 0 else option_map suc (position p ys)) (All-head P y ys f)
        ∙ ap (option_map suc) (go ys (All-tail P y ys f))

-- a place that was found is the first that passes
found_first : {X : Type 0} (p : X → Bool) (xs : List X) (i : ℕ) → position p xs ≡ Some i → All (λ x. p x ≡ false) (take i xs)
found_first p xs i found = λ k d within.
    let here = position-some p xs i found in
    let short : k < i = omega (arith, within, length-take i xs, here.1, here.0) in
    get_or_passes k d short (fails_before_first p xs k d (omega (arith, short, here.0)))
  where
    get_or_passes : (k : ℕ) (d : _) → k < i → p (get_or xs k d) ≡ false → p (get_or (take i xs) k d) ≡ false
    get_or_passes k d short h = ap p (get_or-take i xs k d short) ∙ h

-- what is found is the first active plan
pub active_found : (plans : List FaultPlan) (c entered : ℕ) (reboots : List Level) (number : ℕ) (kind : FaultKind) → active_plan plans c entered reboots ≡ Some (number, kind)
    → (plan : FaultPlan) × IsFirstActive plans c entered reboots number plan × (plan.kind ≡ kind)
active_found plans c entered reboots number kind is =
    let test = makes_fail c entered reboots in
    let place = then_some (plan_at plans) (position test plans) (number, kind) is in
    let i = place.0 in
    let plan = map_some (λ (plan : FaultPlan). (i, plan.kind)) (slice_get plans i) (number, kind) place.2 in
    let same : i ≡ number = ap (λ (x : ℕ × FaultKind). x.0) plan.2 in
    let P : ℕ → Type 0 = λ n. IsFirstActive plans c entered reboots n plan.0 in
    let first : IsFirstActive plans c entered reboots i plan.0 = record {
      here = plan.1;
      active = position-passes test plans i plan.0 place.1 plan.1;
      before = found_first test plans i place.1;
    } in
    (plan.0, subst P same first, ap (λ (x : ℕ × FaultKind). x.1) plan.2)

pub first_found : (plans : List FaultPlan) (c entered : ℕ) (reboots : List Level) (number : ℕ) (kind : FaultKind) → (plan : FaultPlan) × IsFirstActive plans c entered reboots number plan × (plan.kind ≡ kind)
    → active_plan plans c entered reboots ≡ Some (number, kind)
first_found plans c entered reboots number kind h =
    let test = makes_fail c entered reboots in
    let plan = h.0 in
    let within = slice_get_within plans number plan h.1.here in
    let at = get_or_from_slice_get plans number plan plan h.1.here in
    let short : number < length plans = within in
    let fails : (k : ℕ) → k < number → test (get_or plans k plan) ≡ false = λ k lt.
    ap test (sym (get_or-take number plans k plan lt)) ∙ h.1.before k plan (omega (arith, lt, short, length-take number plans)) in
    let passes : number < length plans → test (get_or plans number plan) ≡ true = λ _. ap test at ∙ h.1.active in
    let place = position_is test plans number (position_or_len_is test plans number plan (omega (arith, short)) fails passes) short in
    let found : active_plan plans c entered reboots ≡ plan_at plans number = ap (option_and_then (plan_at plans)) place in
    let shown : plan_at plans number ≡ Some (number, plan.kind) = ap (option_map (λ (p : FaultPlan). (number, p.kind))) h.1.here in
    let named : Some (number, plan.kind) ≡ Some (number, kind) = ap (λ (k : FaultKind). Some (number, k)) h.2 in
    found ∙ shown ∙ named

pub none_active : (plans : List FaultPlan) (c entered : ℕ) (reboots : List Level) → active_plan plans c entered reboots ≡ None → All (λ plan. makes_fail c entered reboots plan ≡ false) plans
none_active plans c entered reboots is = go (position test plans) refl
  where
    test : FaultPlan → Bool
    test = makes_fail c entered reboots

    go : (o : Option ℕ) → position test plans ≡ o → All (λ plan. makes_fail c entered reboots plan ≡ false) plans
    go None none = not_found test plans none
    go (Some i) found =
        let here = position-some test plans i found in
        elim (slice_get_cases plans i).1 [
          | inl plan ↦ absurd (let e : active_plan plans c entered reboots ≡ Some (i, plan.0.kind) = ap (option_and_then (plan_at plans)) found ∙ ap (option_map (λ (p : FaultPlan). (i, p.kind))) plan.2 in cc)
          | inr past ↦ absurd (omega (arith, past.0, here.0, here.1))
        ]

pub active_none : (plans : List FaultPlan) (c entered : ℕ) (reboots : List Level) → All (λ plan. makes_fail c entered reboots plan ≡ false) plans → active_plan plans c entered reboots ≡ None
active_none plans c entered reboots fails = ap (option_and_then (plan_at plans)) (found_nowhere (makes_fail c entered reboots) plans fails)

enough : (a n most : ℕ) → a < most + 1 → nat_le a (min n most) ≡ nat_le a n
enough a n most few = grind (arith, nat_tests)

-- a count that goes no further than a u64 is enough
pub counted_enough : (plans : List FaultPlan) (c enterings : ℕ) (reboots : List Level) → All (λ plan. plan.after < 2 ^ 64) plans → active_plan plans c (counted enterings) reboots ≡ active_plan plans c enterings reboots
counted_enough plans c enterings reboots few =
    ap (option_and_then (plan_at plans)) (position_alike (makes_fail c (counted enterings) reboots) (makes_fail c enterings reboots) plans
    (λ k d within. let plan = get_or plans k d in ap (λ b. (plan.component.0 == c) && (b && not (one_cures reboots plan.cured_by))) (enough plan.after enterings (2 ^ 64 - 1) (few k d within))))
