-- A request that may go on: what has to be known of it for its next step in the container.
use Rattle.std.specs.Prelude.{◌≤◌, ◌<◌, ◌^◌, List, length}
use Rattle.boot_core.specs.Boot.{BootValue}
use Rattle.call_ticket.specs.declared.next.Answer.{Answer}
use Rattle.call_ticket.specs.declared.next.Next.{Next}
use Rattle.crash_base.specs.declared.numbers.Place.{Place}
use Rattle.deployment.specs.declared.parts.Parts.{Parts}
use Rattle.request_tries.specs.Serving.{IsServing, TriesValue, begun_at}
use Rattle.request_visit.specs.declared.visit.Visit.{Visit}
use Rattle.request_visit.specs.declared.visit.Work.{Work}
use Rattle.request_visit.specs.declared.visit.Work.TheVariants.{Reading, Opening, Serving, Committed, Decided, Answered, Left}

-- A request is served in a boot, by a program that its deployment accepts, and its first try began at this place or
-- later.
pub record IsServedFrom {P : Type 0} (accepts : P → Parts → Type 0) (asks : P → List Answer → Next) (boot : BootValue) (front : Place) (tries : TriesValue) (program : P) : Type 0 where
  pub accepted : accepts program boot.start.deployment
  pub serving : IsServing boot (asks program) tries
  pub since : front.0 ≤ begun_at tries (length boot.entries)

-- the same, where a request has come to the container and has not left it
abbrev pub IsServedIn : {P : Type 0} → (P → Parts → Type 0) → (P → List Answer → Next) → BootValue → Place → Work P → Type 0
IsServedIn accepts asks boot front Reading = Unit {0}
IsServedIn accepts asks boot front Opening = Unit {0}
IsServedIn accepts asks boot front (Serving tries program) = IsServedFrom accepts asks boot front tries program
IsServedIn accepts asks boot front (Committed place again shown) = Unit {0}
IsServedIn accepts asks boot front (Decided became) = Unit {0}
IsServedIn accepts asks boot front (Answered fate bytes) = Unit {0}
IsServedIn accepts asks boot front (Left fate) = Unit {0}

-- A request may go on in a boot: if it is in the container, it is served there; the container was held for it no
-- earlier than for the one before, and the journal has not become shorter since; and its moment is one of a clock.
pub record MayGoOn {P : Type 0} (accepts : P → Parts → Type 0) (asks : P → List Answer → Next) (boot : BootValue) (v : Visit P) : Type 0 where
  pub served : IsServedIn accepts asks boot v.facts.front v.work
  pub from : v.facts.front.0 ≤ v.holds.from.0
  pub front : v.holds.from.0 ≤ v.holds.front.0
  pub within : v.holds.front.0 ≤ length boot.entries
  pub small : v.facts.now.0 < 2 ^ 62
