-- Tries of a request that did not commit, and what the journal shows of each.
use Rattle.std.specs.Prelude.{◌≡◌, ℕ, ◌<◌, ◌≤◌, true, List, [], ◌∷◌, length, take, slice_get, Some}
use Rattle.crash_base.specs.declared.scope.Scope.{Scope}
use Rattle.crash_base.specs.Scope.{holds}
use Rattle.deployment.specs.declared.parts.Parts.{Parts}
use Rattle.journal_model.specs.declared.entry.Entry.{Entry}
use Rattle.journal_model.specs.declared.entry.Entry.TheVariants.{Down}
use Rattle.journal_model.specs.declared.entry.ReadMark.{ReadMark}
use Rattle.journal_model.specs.declared.stale.Stale.{Stale}
use Rattle.journal_model.specs.Reboots.{generation}
use Rattle.journal_model.specs.Snapshots.{newest}
use Rattle.call_ticket.specs.declared.next.Answer.{Answer}
use Rattle.call_ticket.specs.declared.next.Next.{Next}
use Rattle.call_attempts.specs.Attempt.{Accesses, EntersGroup, table_in}
use Rattle.request_tries.specs.declared.outcome.Try.{Try}
use Rattle.request_tries.specs.declared.outcome.TryCause.{TryCause}
use Rattle.request_tries.specs.declared.outcome.TryCause.TheVariants.{Revoked, Conflict}

-- A try that began at a place was revoked: a Down that holds a group came since, and the generations that are shown are
-- those of the group at a front since then and now.
pub record IsRevoked (es : List Entry) (at : ℕ) (shown : Stale) : Type 0 where
  pub place : ℕ
  pub since : at ≤ place
  pub scope : Scope
  pub down : slice_get es place ≡ Some (Down scope)
  pub holding : holds scope shown.group.0 ≡ true
  pub front : ℕ
  pub after : at ≤ front
  pub within : front ≤ length es
  pub had : shown.had ≡ generation (take front es) shown.group.0
  pub now : shown.now ≡ generation es shown.group.0

-- A try that began at a place was in conflict: what it read or writes was written since.
pub record IsInConflict (es : List Entry) (at : ℕ) (mark : ReadMark) (newest_place : ℕ) : Type 0 where
  pub newest_is : newest_place ≡ newest es mark
  pub newer : at < newest_place

-- The cause of a try: a group that is shown is of a component that the program enters, and what is shown is of a table
-- that it accesses.
abbrev pub CauseStands : Parts → (List Answer → Next) → List Entry → ℕ → TryCause → Type 0
CauseStands parts asks es at (Revoked shown) = IsRevoked es at shown × EntersGroup parts asks shown.group
CauseStands parts asks es at (Conflict mark newest_place) =
    IsInConflict es at mark newest_place.0 × Accesses asks (table_in mark)

-- A try stands in a journal: it began and ended there, and the journal of its end shows its cause.
pub record TryStands (parts : Parts) (asks : List Answer → Next) (es : List Entry) (t : Try) : Type 0 where
  pub lasts : t.at.0 ≤ t.front.0
  pub within : t.front.0 ≤ length es
  pub cause : CauseStands parts asks (take t.front.0 es) t.at.0 t.cause

-- Tries stand in a journal one after the other, from a place on.
abbrev pub AreTries : Parts → (List Answer → Next) → List Entry → ℕ → List Try → Type 0
AreTries parts asks es from [] = from ≤ length es
AreTries parts asks es from (t ∷ ts) =
    (from ≤ t.at.0) × TryStands parts asks es t × AreTries parts asks es t.front.0 ts

-- where the last of them ended, or else a place
abbrev pub last_front : ℕ → List Try → ℕ
last_front from [] = from
last_front from (t ∷ ts) = last_front t.front.0 ts

-- where the first of them began, or else a place
abbrev pub first_begin : List Try → ℕ → ℕ
first_begin [] at = at
first_begin (t ∷ ts) at = t.at.0
