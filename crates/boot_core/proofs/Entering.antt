-- What an enter meets.
use Rattle.std.proofs.Common.{◌≡◌, ◌≢◌, ◌↔◌, ◌⊎◌, ℕ, List, [], ◌∷◌, Option, Some, None, Err, All, false, inl, inr, refl, sym, ap, ◌∙◌}
use Rattle.crash_base.specs.declared.fault_plans.FaultKind.{FaultKind}
use Rattle.crash_base.specs.declared.fault_plans.FaultKind.TheVariants.{Raise, Hang, Leak}
use Rattle.crash_base.specs.declared.numbers.ComponentNo.{ComponentNo}
use Rattle.crash_base.specs.Refusals.{first_of}
use Rattle.crash_base.specs.declared.numbers.Level.{Level}
use Rattle.component_pool.specs.Journal.{reboots_in}
use Rattle.component_pool.specs.Plans.{counted}
use Rattle.component_pool.specs.Pool.{times}
use Rattle.component_pool.proofs.Finding.{active_found, first_found, none_active, active_none}
use Rattle.deployment.specs.Groups.{group_of}
use Rattle.journal_model.specs.Calls.{Call}
use Rattle.boot_core.specs.Boot.{BootValue}
use Rattle.boot_core.specs.Faults.{fault_of, makes_fail_in, IsFirstFault}
use Rattle.boot_core.specs.Refusals.{CallAnswer, barred, enter_refusal, failing}
use Rattle.boot_core.specs.declared.refusals.CallRefusal.{CallRefusal}
use Rattle.boot_core.specs.declared.refusals.CallRefusal.TheVariants.{Revoked, Depth, Steps, Reads, Writes, Sentinel, Hung, Raised, OutOfMemory}
use Rattle.boot_core.proofs.Refusing.{first_alone}

-- what bars an enter comes first
pub barred_first : (b : BootValue) (call : Call) (c : ComponentNo) (r : CallRefusal) → barred b.entries call (group_of b.start.deployment c.0) ≡ Some r → enter_refusal b call c ≡ Some r
barred_first b call c r is = ap (λ o. first_of (o ∷ failing c (fault_of b c) ∷ [])) is

-- where nothing does, the component alone may refuse it
pub free_enter : (b : BootValue) (call : Call) (c : ComponentNo) → barred b.entries call (group_of b.start.deployment c.0) ≡ None → enter_refusal b call c ≡ failing c (fault_of b c)
free_enter b call c free = ap (λ o. first_of (o ∷ failing c (fault_of b c) ∷ [])) free ∙ first_alone (failing c (fault_of b c))

-- a component raises or hangs just as the plan says that makes it fail

raised_by : (c x : ComponentNo) (n : ℕ) (o : Option (ℕ × FaultKind)) → failing c o ≡ Some (Raised x n) → (x ≡ c) × (o ≡ Some (n, Raise))
raised_by c x n None is = absurd (cc)
raised_by c x n (Some (m, Raise)) is =
    let here : c ≡ x = cc in
    let number : m ≡ n = cc in
    (sym here, ap (λ (k : ℕ). Some (k, Raise)) number)
raised_by c x n (Some (m, Hang)) is = absurd (cc)
raised_by c x n (Some (m, Leak)) is = absurd (cc)

hung_by : (c x : ComponentNo) (n : ℕ) (o : Option (ℕ × FaultKind)) → failing c o ≡ Some (Hung x n) → (x ≡ c) × (o ≡ Some (n, Hang))
hung_by c x n None is = absurd (cc)
hung_by c x n (Some (m, Raise)) is = absurd (cc)
hung_by c x n (Some (m, Hang)) is =
    let here : c ≡ x = cc in
    let number : m ≡ n = cc in
    (sym here, ap (λ (k : ℕ). Some (k, Hang)) number)
hung_by c x n (Some (m, Leak)) is = absurd (cc)

passes_by : (c : ComponentNo) (o : Option (ℕ × FaultKind)) → failing c o ≡ None → (o ≡ None) ⊎ ((n : ℕ) × (o ≡ Some (n, Leak)))
passes_by c None is = inl refl
passes_by c (Some (m, Raise)) is = absurd (cc)
passes_by c (Some (m, Hang)) is = absurd (cc)
passes_by c (Some (m, Leak)) is = inr (m, refl)

-- the first active plan of a component

found_is : (b : BootValue) (c : ComponentNo) (n : ℕ) (kind : FaultKind) → fault_of b c ≡ Some (n, kind) → IsFirstFault b c n kind
found_is b c n kind = active_found b.start.plans c.0 (counted (times b.entered c.0)) (reboots_in b.entries (group_of b.start.deployment c.0)) n kind

first_is_found : (b : BootValue) (c : ComponentNo) (n : ℕ) (kind : FaultKind) → IsFirstFault b c n kind → fault_of b c ≡ Some (n, kind)
first_is_found b c n kind = first_found b.start.plans c.0 (counted (times b.entered c.0)) (reboots_in b.entries (group_of b.start.deployment c.0)) n kind

-- an enter that nothing bars fails by that plan

pub raises : (b : BootValue) (call : Call) (c x : ComponentNo) (n : ℕ) → barred b.entries call (group_of b.start.deployment c.0) ≡ None → (enter_refusal b call c ≡ Some (Raised x n)) ↔ ((x ≡ c) × IsFirstFault b c n Raise)
raises b call c x n free = (
  (λ is.
      let by = raised_by c x n (fault_of b c) (sym (free_enter b call c free) ∙ is) in
      (by.0, found_is b c n Raise by.1)),
  λ by.
      free_enter b call c free ∙ ap (failing c) (first_is_found b c n Raise by.1) ∙ ap (λ (d : ComponentNo). Some (Raised d n)) (sym by.0),
)

pub hangs : (b : BootValue) (call : Call) (c x : ComponentNo) (n : ℕ) → barred b.entries call (group_of b.start.deployment c.0) ≡ None → (enter_refusal b call c ≡ Some (Hung x n)) ↔ ((x ≡ c) × IsFirstFault b c n Hang)
hangs b call c x n free = (
  (λ is.
      let by = hung_by c x n (fault_of b c) (sym (free_enter b call c free) ∙ is) in
      (by.0, found_is b c n Hang by.1)),
  λ by.
      free_enter b call c free ∙ ap (failing c) (first_is_found b c n Hang by.1) ∙ ap (λ (d : ComponentNo). Some (Hung d n)) (sym by.0),
)

pub passes : (b : BootValue) (call : Call) (c : ComponentNo) → barred b.entries call (group_of b.start.deployment c.0) ≡ None
    → (enter_refusal b call c ≡ None) ↔ (All (λ plan. makes_fail_in b c plan ≡ false) b.start.plans ⊎ ((n : ℕ) × IsFirstFault b c n Leak))
passes b call c free = (λ is. there (passes_by c (fault_of b c) (sym (free_enter b call c free) ∙ is)), back)
  where
    reboots : List Level
    reboots = reboots_in b.entries (group_of b.start.deployment c.0)

    there : (fault_of b c ≡ None) ⊎ ((n : ℕ) × (fault_of b c ≡ Some (n, Leak))) → All (λ plan. makes_fail_in b c plan ≡ false) b.start.plans ⊎ ((n : ℕ) × IsFirstFault b c n Leak)
    there (inl none) = inl (none_active b.start.plans c.0 (counted (times b.entered c.0)) reboots none)
    there (inr leaks) = inr (leaks.0, found_is b c leaks.0 Leak leaks.1)

    back : All (λ plan. makes_fail_in b c plan ≡ false) b.start.plans ⊎ ((n : ℕ) × IsFirstFault b c n Leak) → enter_refusal b call c ≡ None
    back (inl fails) = free_enter b call c free ∙ ap (failing c) (active_none b.start.plans c.0 (counted (times b.entered c.0)) reboots fails)
    back (inr leaks) = free_enter b call c free ∙ ap (failing c) (first_is_found b c leaks.0 Leak leaks.1)

-- a refusal but of memory is answered as it is
pub answers_first : (o : Option CallRefusal) (e : CallRefusal) → o ≡ Some e → e ≢ OutOfMemory → CallAnswer {T = Unit {0}} o (Err e)
answers_first o (Revoked s) is other = is
answers_first o Depth is other = is
answers_first o Steps is other = is
answers_first o Reads is other = is
answers_first o Writes is other = is
answers_first o (Sentinel g place) is other = is
answers_first o (Hung c fault) is other = is
answers_first o (Raised c fault) is other = is
answers_first o OutOfMemory is other = absurd (other refl)
