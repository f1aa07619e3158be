-- What the operator of a server is told of a boot.
use Rattle.std.specs.Prelude.{◌≡◌, ℕ, ◌-◌, Bool, true, false, List, [], ◌∷◌, All, length}
use Rattle.auction_rows.specs.Parts.{site_parts}
use Rattle.container_core.specs.Container.{ContainerValue}
use Rattle.journal_model.specs.Rows.{rows_after}
use Rattle.service_log.specs.Logging.{Log, LogsEvents}
use Rattle.service_log.specs.declared.event.ServiceEvent.{ServiceEvent}
use Rattle.service_log.specs.declared.event.ServiceEvent.TheVariants.{Started, Rebooted, Stopped, HumanNeeded}

-- how many rows a boot was started over, beside that of its number
abbrev pub started_rows : ContainerValue → ℕ
started_rows c = length (rows_after c.boot.start.base []) - 1

-- the start of a container, as it is told
abbrev pub start_of : ContainerValue → ServiceEvent
start_of c = Started c.boot.start.boot (started_rows c)

-- whether a start is told
abbrev pub is_start : ServiceEvent → Bool
is_start (Started boot rows) = true
is_start (Rebooted scope milliseconds) = false
is_start (Stopped entries) = false
is_start HumanNeeded = false

-- What happened was told, and no start.
pub record HasTold (old new : Log) : Type 0 where
  pub events : List ServiceEvent
  pub told : LogsEvents site_parts events old new
  pub no_start : All (λ (event : ServiceEvent). is_start event ≡ false) events

-- The start of a boot was told, and then what happened in it.
pub record HasToldBoot (started : ContainerValue) (old new : Log) : Type 0 where
  pub events : List ServiceEvent
  pub told : LogsEvents site_parts (start_of started ∷ events) old new
  pub no_start : All (λ (event : ServiceEvent). is_start event ≡ false) events
