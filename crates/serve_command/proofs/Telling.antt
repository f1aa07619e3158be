-- What was told, where there was memory for the line.
use Rattle.std.proofs.Common.{◌≡◌, ◌⊎◌, inl, inr, ℕ, List, Result, Ok, Err, IfOk, OnErr, subst}
use Rattle.service_log.specs.Logging.{Log, WritesLine}

-- a line that was made was written, and of one that was not nothing
pub found_or_not : {A B : Type 0} (found : Result A B) (bytes : A → List ℕ) (line : List ℕ) (old new : Log)
    → IfOk found (λ x. bytes x ≡ line) → IfOk found (λ x. WritesLine (bytes x) old new) → OnErr found (new ≡ old)
    → (new ≡ old) ⊎ WritesLine line old new
found_or_not (Ok x) bytes line old new made written none = inr (subst (λ l. WritesLine l old new) made written)
found_or_not (Err x) bytes line old new made written none = inl none
