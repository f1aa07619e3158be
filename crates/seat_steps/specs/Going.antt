-- Which seats can be driven.
use Rattle.std.specs.Prelude.{◌≡◌, true}
use Rattle.auction_calls.specs.Calls.{is_call}
use Rattle.auction_calls.specs.declared.action.ActionCall.{ActionCall}
use Rattle.auction_rows.specs.Parts.{site_parts}
use Rattle.auction_site.specs.Actions.{steps_of}
use Rattle.container_core.specs.Container.{ContainerValue}
use Rattle.deployment.specs.declared.parts.Parts.{Parts}
use Rattle.lane_link.specs.Links.{LaneLinkMakes}
use Rattle.shepherd.specs.Going.{GoesOn}
use Rattle.shepherd.specs.declared.shepherd.Shepherd.{Shepherd}

-- what the site's deployment accepts: a call whose fields are in their ranges
abbrev pub IsAccepted : ActionCall → Parts → Type 0
IsAccepted call parts = (parts ≡ site_parts) × (is_call call ≡ true)

-- A connection of the site goes on in this container, over the bricks of a scenario.
pub record GoesOnAtSeat (container : ContainerValue) (s : Shepherd ActionCall) : Type 0 where
  pub goes_on : GoesOn IsAccepted steps_of LaneLinkMakes container s
