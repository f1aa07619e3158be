-- Numbers that are drawn differ.
use Rattle.std.proofs.Common.{◌≢◌, ℕ, sym, subst, All, List, [], ◌∷◌, Option, Some, None}
use Rattle.std.specs.List.{filter_map}
use Rattle.std.proofs.lemmas.List.Elements.{All-nil, All-cons}
use Rattle.outside.specs.Serials.{IsDrawn, Looked, Draws, AllDiffer}

module _ {S : Type 0} (undrawn : S → ℕ → Type 0) (looks : S → ℕ → Option ℕ → S → Type 0)
    (goes_on : (old new : S) (seen : ℕ) (drawn : Option ℕ) → looks old seen drawn new → Looked undrawn old seen new)
    (once : (old new : S) (seen serial : ℕ) → looks old seen (Some serial) new → IsDrawn undrawn old new serial) where
  -- a number that is drawn stays so
  stays_drawn : (draws : List (Option ℕ)) (old new : S) (serial : ℕ) → (undrawn old serial → ⊥) → Draws looks old draws new → All (λ other. serial ≢ other) (filter_map (λ drawn. drawn) draws)
  stays_drawn [] old new serial gone h = All-nil (λ other. serial ≢ other)
  stays_drawn (None ∷ more) old new serial gone (seen, mid, one, rest) =
      stays_drawn more mid new serial (λ u. gone ((goes_on old mid seen None one).left serial u)) rest
  stays_drawn (Some other ∷ more) old new serial gone (seen, mid, one, rest) =
      All-cons (λ n. serial ≢ n) other (filter_map (λ drawn. drawn) more)
      (λ e. gone (subst (undrawn old) (sym e) (once old mid seen other one).was_undrawn))
      (stays_drawn more mid new serial (λ u. gone ((goes_on old mid seen (Some other) one).left serial u)) rest)

  pub all_differ : (draws : List (Option ℕ)) (old new : S) → Draws looks old draws new → AllDiffer (filter_map (λ drawn. drawn) draws)
  all_differ [] old new h = tt
  all_differ (None ∷ more) old new (seen, mid, one, rest) = all_differ more mid new rest
  all_differ (Some serial ∷ more) old new (seen, mid, one, rest) =
      (stays_drawn more mid new serial (once old mid seen serial one).is_drawn rest, all_differ more mid new rest)
