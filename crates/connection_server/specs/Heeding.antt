-- How a connection heeds that its container was stopped.
use Rattle.std.specs.Prelude.{◌≡◌, ◌≤◌, ◌⊎◌, Bool, true, false, List, [], ◌∷◌, ◌++◌, All, length, take}
use Rattle.container_core.specs.History.{is_stopped}
use Rattle.container_core.specs.declared.history.Event.{Event}
use Rattle.outcome_items.specs.declared.item.Holds.{Holds}
use Rattle.outcome_items.specs.declared.item.Item.{Item}
use Rattle.shepherd.specs.declared.shepherd.EndKind.{EndKind}
use Rattle.shepherd.specs.declared.shepherd.EndKind.TheVariants as ends
use Rattle.shepherd.specs.declared.shepherd.Stage.{Stage}
use Rattle.shepherd.specs.declared.shepherd.Stage.TheVariants.{Resting, Serving, Refusing, Over}

-- The container was stopped, or was not, when it was last held for a request.
pub record WasFound (history : List Event) (holds : Holds) (stopped : Bool) : Type 0 where
  pub within : holds.held ≤ length history
  pub found : is_stopped (take holds.held history) ≡ stopped

-- The container was not stopped when it was last held for each of these items.
abbrev pub NoneStopped : List Event → List Item → Type 0
NoneStopped history items = All (λ (i : Item). WasFound history i.holds false) items

-- It was stopped when it was last held for the last of these items, and for no earlier one.
pub record LastStopped (history : List Event) (items : List Item) : Type 0 where
  pub before : List Item
  pub last : Item
  pub items_are : items ≡ before ++ last ∷ []
  pub running : NoneStopped history before
  pub stopped : WasFound history last.holds true

-- It was not stopped for any item but the last.
abbrev pub AtMostLastStopped : List Event → List Item → Type 0
AtMostLastStopped history items = NoneStopped history items ⊎ LastStopped history items

-- an end that is told of a connection at its last step: a request closed it, or what followed is refused
abbrev pub IsLastStep : EndKind → Type 0
IsLastStep ends.Closed = Unit {0}
IsLastStep ends.Cut = ⊥
IsLastStep (ends.Refused why) = Unit {0}
IsLastStep ends.OutOfMemory = ⊥

-- It is known whether the container was stopped when it was last held for the request that is open, if one is.
abbrev pub StageHeeds : {P : Type 0} → List Event → Bool → Stage P → Type 0
StageHeeds history stopped Resting = Unit {0}
StageHeeds history stopped (Serving v call) = WasFound history v.holds stopped
StageHeeds history stopped (Refusing why bytes) = Unit {0}
StageHeeds history stopped (Over end) = IsLastStep end

-- The container was not stopped for any item; and it is known whether it was for the request that is open.
pub record Heeds {P : Type 0} (history : List Event) (items : List Item) (stopped : Bool) (stage : Stage P) : Type 0 where
  pub running : NoneStopped history items
  pub is_open : StageHeeds history stopped stage
