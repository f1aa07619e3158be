-- What is told of a boot, event by event.
use Rattle.std.proofs.Common.{◌≡◌, false, [], ◌∷◌, ◌++◌, refl, subst}
use Rattle.std.proofs.lemmas.List.Elements.{All-append, All-cons, All-nil}
use Rattle.auction_rows.specs.Parts.{site_parts}
use Rattle.container_core.specs.Container.{ContainerValue}
use Rattle.container_server.specs.Telling.{HasTold, HasToldBoot, is_start, start_of}
use Rattle.deployment.specs.declared.parts.Parts.{Parts}
use Rattle.service_log.specs.Logging.{Log, LogsEvent}
use Rattle.service_log.specs.declared.event.ServiceEvent.{ServiceEvent}
use Rattle.service_log.proofs.Logging.{logged_behind}

-- none of these events is a start
abbrev NoStart : ServiceEvent → Type 0
NoStart event = is_start event ≡ false

-- nothing was told
pub nothing_told : (log : Log) → HasTold log log
nothing_told log = record { events = []; told = refl; no_start = All-nil NoStart }

-- one event was told
pub told_one : (parts : Parts) (event : ServiceEvent) (old new : Log) → parts ≡ site_parts → is_start event ≡ false → LogsEvent parts event old new → HasTold old new
told_one parts event old new of_site no_start logged = record {
  events = event ∷ [];
  told = (new, subst (λ (p : Parts). LogsEvent p event old new) of_site logged, refl);
  no_start = All-cons NoStart event [] no_start (All-nil NoStart);
}

-- something was told, and then something else
pub told_twice : (old between new : Log) → HasTold old between → HasTold between new → HasTold old new
told_twice old between new first second = record {
  events = first.events ++ second.events;
  told = logged_behind site_parts first.events second.events old between new first.told second.told;
  no_start = All-append NoStart first.events second.events first.no_start second.no_start;
}

-- the start of a boot was told, and then what happened in it
pub told_boot : (started : ContainerValue) (old between new : Log) → LogsEvent site_parts (start_of started) old between → HasTold between new → HasToldBoot started old new
told_boot started old between new start rest = record { events = rest.events; told = (between, start, rest.told); no_start = rest.no_start }
