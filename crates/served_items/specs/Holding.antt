-- How far the history of a container had come when it was last held for each item.
use Rattle.std.specs.Prelude.{◌≤◌, ℕ, max, List, [], ◌∷◌, length}
use Rattle.container_core.specs.declared.history.Event.{Event}
use Rattle.outcome_items.specs.declared.item.Item.{Item}
use Rattle.request_visit.specs.declared.visit.Visit.{Visit}
use Rattle.shepherd.specs.Steps.{IfOpen}
use Rattle.shepherd.specs.declared.shepherd.Shepherd.{Shepherd}

-- Items hold on behind so many events: where the container was held for one, its history had at least as many then, and
-- at least as many as for each item before.
abbrev pub HoldOn : ℕ → List Item → Type 0
HoldOn reached [] = Unit {0}
HoldOn reached (i ∷ items) = (1 ≤ i.holds.held → reached ≤ i.holds.held) × HoldOn (max reached i.holds.held) items

-- the most events at which the container was held for one of these items, or so many if that is more
abbrev pub furthest : ℕ → List Item → ℕ
furthest reached [] = reached
furthest reached (i ∷ items) = furthest (max reached i.holds.held) items

-- The container was held for the request that is open, if it was, when its history had at least so many events, and no
-- more than it has now.
pub record IsHeldBehind {P : Type 0} (reached : ℕ) (history : List Event) (v : Visit P) : Type 0 where
  pub held : 1 ≤ v.holds.held → reached ≤ v.holds.held
  pub within : v.holds.held ≤ length history

-- The items of a connection hold on behind as many events as the history had when it began; and so does the request
-- that is open, behind them all.
pub record Holding {P : Type 0} (begun : ℕ) (history : List Event) (items : List Item) (s : Shepherd P) : Type 0 where
  pub hold_on : HoldOn begun items
  pub within : furthest begun items ≤ length history
  pub is_open : IfOpen s.stage (λ v call. IsHeldBehind (furthest begun items) history v)
