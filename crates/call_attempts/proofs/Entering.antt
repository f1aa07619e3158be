-- What an attempt entered by its last step.
use Rattle.std.proofs.Common.{◌≡◌, ◌-◌, ℕ, arith, List, [], ◌∷◌, ◌++◌, length, slice_get, Option, Some, refl, sym, ap, ◌∙◌, subst}
use Rattle.std.specs.Prelude.{◌↔◌}
use Rattle.std.proofs.lemmas.List.{length-append}
use Rattle.crash_base.specs.declared.numbers.ComponentNo.{ComponentNo}
use Rattle.call_ticket.specs.declared.next.Answer.{Answer}
use Rattle.call_ticket.specs.declared.next.Next.{Next}
use Rattle.call_ticket.specs.declared.next.Next.TheVariants as next
use Rattle.boot_core.specs.Boot.{BootValue}
use Rattle.call_attempts.specs.Attempt.{AttemptValue, HasStepped, answer_to, entered_in, if_entered, last_entered, rows_at_begin, wanted}
use Rattle.call_attempts.specs.declared.attempt.Stepped.TheVariants.{Went}

at_last : {A : Type 0} (xs : List A) (y : A) → slice_get (xs ++ y ∷ []) (length xs) ≡ Some y
at_last [] y = refl
at_last (x ∷ xs) y = at_last xs y

last_is : {A : Type 0} (xs : List A) (y : A) → slice_get (xs ++ y ∷ []) (length (xs ++ y ∷ []) - 1) ≡ Some y
last_is xs y =
    let short : length (xs ++ y ∷ []) - 1 ≡ length xs = (let long = length-append xs (y ∷ []) in omega (arith, long)) in
    ap (λ (i : ℕ). slice_get (xs ++ y ∷ []) i) short ∙ at_last xs y

-- After a step that was answered, the component that it was to enter is the one that was entered last.
pub tells_entered : (boot : BootValue) (asks : List Answer → Next) (a after : AttemptValue) (c : ComponentNo) → HasStepped boot asks a Went after
    → (last_entered after ≡ Some c) ↔ ((m : ℕ) × (wanted asks a ≡ next.Enter c m))
tells_entered boot asks a after c (goes, free, is) =
    subst (λ (b : AttemptValue). (last_entered b ≡ Some c) ↔ ((m : ℕ) × (wanted asks a ≡ next.Enter c m))) (sym is) (by (wanted asks a)) where
      by : (x : Next) → (if_entered (a.entered ++ entered_in x) (slice_get (a.answers ++ answer_to (rows_at_begin boot a.ticket.call) a.ticket.call x ∷ []) (length (a.answers ++ answer_to (rows_at_begin boot a.ticket.call) a.ticket.call x ∷ []) - 1)) ≡ Some c) ↔ ((m : ℕ) × (x ≡ next.Enter c m))
      by x = subst (λ (o : Option Answer). (if_entered (a.entered ++ entered_in x) o ≡ Some c) ↔ ((m : ℕ) × (x ≡ next.Enter c m))) (sym (last_is a.answers (answer_to (rows_at_begin boot a.ticket.call) a.ticket.call x))) (cases x) where
        cases : (x : Next) → (if_entered (a.entered ++ entered_in x) (Some (answer_to (rows_at_begin boot a.ticket.call) a.ticket.call x)) ≡ Some c) ↔ ((m : ℕ) × (x ≡ next.Enter c m))
        cases (next.Enter d m) = (
          λ is. let last = last_is a.entered d in let same : d ≡ c = cc in (m, ap (λ (e : ComponentNo). next.Enter e m) same),
          λ some. let same : d ≡ c = (let is = some.1 in cc) in last_is a.entered d ∙ ap Some same,
        )
        cases (next.Read id) = (λ is. absurd (cc), λ some. let is = some.1 in absurd (cc))
        cases (next.List table) = (λ is. absurd (cc), λ some. let is = some.1 in absurd (cc))
        cases (next.Put w) = (λ is. absurd (cc), λ some. let is = some.1 in absurd (cc))
        cases next.Exit = (λ is. absurd (cc), λ some. let is = some.1 in absurd (cc))
        cases (next.Done d) = (λ is. absurd (cc), λ some. let is = some.1 in absurd (cc))
