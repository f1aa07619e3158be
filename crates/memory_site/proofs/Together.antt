-- Connections of the site go on together.
use Rattle.std.proofs.Common.{ℕ, List}
use Rattle.std.proofs.Math.ListN.{set}
use Rattle.std.proofs.lemmas.List.Elements.{All-set, All-weaker}
use Rattle.auction_calls.specs.declared.action.ActionCall.{ActionCall}
use Rattle.container_core.specs.Container.{ContainerValue}
use Rattle.memory_site.specs.Going.{AllGoOn, GoesOnAtSite}
use Rattle.shepherd.specs.declared.shepherd.Shepherd.{Shepherd}

-- All go on behind what happened to the container, where each one does that went on before.
pub all_still : (container after : ContainerValue) (shepherds : List (Shepherd ActionCall))
    → ((s : Shepherd ActionCall) → GoesOnAtSite container s → GoesOnAtSite after s) → AllGoOn container shepherds → AllGoOn after shepherds
all_still container after shepherds still all =
    All-weaker (GoesOnAtSite container) (GoesOnAtSite after) still shepherds all

-- The same with another one in the place of one of them, which goes on there too.
pub all_with : (container after : ContainerValue) (shepherds : List (Shepherd ActionCall)) (at : ℕ) (new : Shepherd ActionCall)
    → ((s : Shepherd ActionCall) → GoesOnAtSite container s → GoesOnAtSite after s) → GoesOnAtSite after new
    → AllGoOn container shepherds → AllGoOn after (set shepherds at new)
all_with container after shepherds at new still goes all =
    All-set (GoesOnAtSite after) shepherds at new goes (all_still container after shepherds still all)
