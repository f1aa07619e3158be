-- What holds of a boot between two lines.
use Rattle.std.specs.Prelude.{◌≡◌, Bool, true, List}
use Rattle.auction_rows.specs.Parts.{site_parts}
use Rattle.container_core.specs.Container.{ContainerValue}
use Rattle.line_steps.specs.Callers.{AllFit}
use Rattle.line_steps.specs.declared.callers.Caller.{Caller}
use Rattle.seat_lines.specs.Site.{AllGoOn, SeatsState}

-- The calls of callers fit the boot, connections go on in the container, and the deployment is that of the site, where
-- that is said.
pub record RunsOn (container : ContainerValue) (callers : List Caller) (seats : SeatsState) (site : Bool) : Type 0 where
  pub fits : AllFit container.boot callers
  pub goes : AllGoOn container seats
  pub of_site : site ≡ true → container.boot.start.deployment ≡ site_parts
