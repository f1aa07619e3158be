-- What reboots do to the calls that entered their groups.
use Rattle.std.specs.Prelude.{◌≡◌, ℕ, ◌<◌, ◌≤◌, List, ◌∷◌, ◌++◌, take, slice_get, false, Some, None, All}
use Rattle.crash_base.specs.declared.scope.Scope.{Scope}
use Rattle.crash_base.specs.Scope.{holds}
use Rattle.journal_model.specs.declared.entry.Entry.{Entry}
use Rattle.journal_model.specs.declared.entry.Entry.TheVariants.{Down}
use Rattle.journal_model.specs.declared.entry.Touch.{Touch}
use Rattle.journal_model.specs.declared.stale.Stale.{Stale}
use Rattle.journal_model.specs.Reboots.{generation, down_of}
use Rattle.journal_model.specs.Stale.{IsStale, stale_by}

-- What is shown is the first stale touch: its group, with the generations at its front and now.
pub record IsFirstStale (es : List Entry) (touched : List Touch) (shown_stale : Stale) : Type 0 where
  pub before : List Touch
  pub touch : Touch
  pub after : List Touch
  pub parts : touched ≡ before ++ touch ∷ after
  pub fresh : All (λ t. ¬ IsStale es t) before
  pub stale : IsStale es touch
  pub shown : shown_stale ≡ stale_by es touch

-- A group was not rebooted between two places: no Down between them holds it, it was up at the first, is up at the
-- second, and has the same generation at both.
pub record IsUnrebooted (es : List Entry) (g front place : ℕ) : Type 0 where
  pub within : front ≤ place
  pub no_down : (i : ℕ) (s : Scope) → front ≤ i → i < place → slice_get es i ≡ Some (Down s) → holds s g ≡ false
  pub generations : generation (take front es) g ≡ generation (take place es) g
  pub up_before : down_of (take front es) g ≡ None
  pub up : down_of (take place es) g ≡ None
