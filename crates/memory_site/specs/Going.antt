-- Which connections of the site can be driven.
use Rattle.std.specs.Prelude.{◌≡◌, true, List, All}
use Rattle.auction_calls.specs.Calls.{is_call}
use Rattle.auction_calls.specs.declared.action.ActionCall.{ActionCall}
use Rattle.auction_rows.specs.Parts.{site_parts}
use Rattle.auction_site.specs.Actions.{steps_of}
use Rattle.container_core.specs.Container.{ContainerValue}
use Rattle.deployment.specs.declared.parts.Parts.{Parts}
use Rattle.link_memory.specs.Script.{ScriptMakes}
use Rattle.shepherd.specs.Going.{GoesOn}
use Rattle.shepherd.specs.declared.shepherd.Shepherd.{Shepherd}

-- what the site's deployment accepts: a call whose fields are in their ranges
abbrev pub IsAccepted : ActionCall → Parts → Type 0
IsAccepted call parts = (parts ≡ site_parts) × (is_call call ≡ true)

-- A connection goes on in this container of the site.
pub record GoesOnAtSite (container : ContainerValue) (s : Shepherd ActionCall) : Type 0 where
  pub goes_on : GoesOn IsAccepted steps_of ScriptMakes container s

-- Each of these connections does.
abbrev pub AllGoOn : ContainerValue → List (Shepherd ActionCall) → Type 0
AllGoOn container shepherds = All (GoesOnAtSite container) shepherds
