-- Touches of a journal, and when a reboot has made one stale.
use Rattle.std.specs.Prelude.{◌≡◌, ◌≤◌, ◌<◌, ℕ, ◌==◌, Bool, true, not, if◌then◌else◌, List, [], ◌∷◌, length, take, drop, slice_get, Option, Some, None}
use Rattle.std.specs.List.{list_any}
use Rattle.crash_base.specs.declared.scope.Scope.{Scope}
use Rattle.crash_base.specs.declared.scope.TheConstants.{MAX_GROUPS}
use Rattle.crash_base.specs.Scope.{holds}
use Rattle.journal_model.specs.declared.entry.Entry.{Entry}
use Rattle.journal_model.specs.declared.entry.Entry.TheVariants.{Down}
use Rattle.journal_model.specs.declared.entry.Touch.{Touch}
use Rattle.journal_model.specs.declared.stale.Stale.{Stale}
use Rattle.journal_model.specs.Reboots.{is_down_of, generation, down_of}

-- the touch of a group that is entered after these entries
abbrev pub new_touch : List Entry → ℕ → Touch
new_touch es g = record {
  group = record { 0 = g };
  generation = generation es g;
  front = record { 0 = length es };
}

-- A touch was made in this journal: its front is within it, and there its group, which is one of those that
-- there may be, was up and had its generation.
pub record IsTouch (es : List Entry) (t : Touch) : Type 0 where
  pub known : t.group.0 < MAX_GROUPS
  pub within : t.front.0 ≤ length es
  pub had : t.generation ≡ generation (take t.front.0 es) t.group.0
  pub up : down_of (take t.front.0 es) t.group.0 ≡ None

-- A touch was made at a place or later.
abbrev pub IsSince : ℕ → Touch → Type 0
IsSince place t = place ≤ t.front.0

-- A touch is stale: a Down whose scope holds its group is at its front or later.
pub record IsStale (es : List Entry) (t : Touch) : Type 0 where
  pub place : ℕ
  pub since : t.front.0 ≤ place
  pub scope : Scope
  pub down : slice_get es place ≡ Some (Down scope)
  pub holding : holds scope t.group.0 ≡ true

-- whether a touch is stale
abbrev pub is_stale : List Entry → Touch → Bool
is_stale es t = list_any (is_down_of t.group.0) (drop t.front.0 es)

-- whether the group of a touch has another generation by now
abbrev pub has_passed : List Entry → Touch → Bool
has_passed es t = not (t.generation == generation es t.group.0)

-- the group of a stale touch, with its generation at the front and now
abbrev pub stale_by : List Entry → Touch → Stale
stale_by es t = record {
  group = t.group;
  had = generation (take t.front.0 es) t.group.0;
  now = generation es t.group.0;
}

-- what the first stale touch shows, if one is stale
abbrev pub stale_in : List Entry → List Touch → Option Stale
stale_in es [] = None
stale_in es (t ∷ ts) = if is_stale es t then Some (stale_by es t) else stale_in es ts

-- A touch is live: its group was not rebooted since, so it has its generation still, and is up.
pub record IsLive (es : List Entry) (t : Touch) : Type 0 where
  pub unrebooted : ¬ IsStale es t
  pub present : t.generation ≡ generation es t.group.0
  pub up : down_of es t.group.0 ≡ None
