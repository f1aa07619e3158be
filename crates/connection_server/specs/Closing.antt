-- Why a connection comes to its end.
use Rattle.std.specs.Prelude.{◌≡◌, ◌⊎◌, ◌+◌, ℕ, false, List, ◌∷◌, ◌++◌, length, Option}
use Rattle.container_core.specs.declared.history.Event.{Event}
use Rattle.http_wire.specs.Requests.{requests}
use Rattle.http_wire.specs.declared.taken.Head.{Head}
use Rattle.outcome_items.specs.declared.item.Item.{Item}
use Rattle.outside.specs.Source.{HasEnded}
use Rattle.shepherd.specs.declared.shepherd.EndKind.{EndKind}
use Rattle.shepherd.specs.declared.shepherd.EndKind.TheVariants.{Closed, Cut, Refused, OutOfMemory}
use Rattle.connection_server.specs.Heeding.{AtMostLastStopped, NoneStopped}

-- no more requests come, whatever bytes follow these: the last one closes its connection, or what follows is refused
abbrev pub AllHaveCome : List ℕ → Type 0
AllHaveCome fed = (more : List ℕ) → requests (fed ++ more) ≡ requests fed

-- The request of these bytes that the last of the items is for does not close its connection.
pub record LastStaysOpen (fed : List ℕ) (items : List Item) : Type 0 where
  pub before : List Head
  pub last : Head
  pub behind : List Head
  pub heads_are : (requests fed).heads ≡ before ++ last ∷ behind
  pub as_many : length items ≡ length before + 1
  pub stays : last.close ≡ false

-- A connection ends by itself where the source has nothing left, behind a request that closes it, or at what is
-- refused. If the container was stopped for an item, then for the last one alone, and its request closed it.
abbrev pub EndsBy : EndKind → Option (List ℕ) → List ℕ → List Event → List Item → Type 0
EndsBy Closed left fed history items =
    (HasEnded left × NoneStopped history items) ⊎ (AllHaveCome fed × AtMostLastStopped history items)
EndsBy Cut left fed history items = HasEnded left × NoneStopped history items
EndsBy (Refused why) left fed history items = NoneStopped history items
EndsBy OutOfMemory left fed history items = NoneStopped history items
