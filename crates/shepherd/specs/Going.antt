-- Which connections can be driven: each call that their turn asks for may be made.
use Rattle.std.specs.Prelude.{◌≡◌, ◌≢◌, ◌≤◌, true, false, List, length, Option, None}
use Rattle.call_ticket.specs.declared.next.Answer.{Answer}
use Rattle.call_ticket.specs.declared.next.Next.{Next}
use Rattle.container_core.specs.Container.{ContainerValue, events_of}
use Rattle.deployment.specs.declared.parts.Parts.{Parts}
use Rattle.outside.specs.declared.link.LinkEvent.{LinkEvent}
use Rattle.request_visit.specs.Going.{MayGoOn}
use Rattle.request_visit.specs.Sessions.{SessionStands}
use Rattle.request_visit.specs.declared.visit.Visit.{Visit}
use Rattle.ssm_stub.specs.Reads.{ReadState}
use Rattle.shepherd.specs.Standing.{is_early}
use Rattle.shepherd.specs.Steps.{IfOpen}
use Rattle.shepherd.specs.declared.shepherd.AskedCall.{AskedCall}
use Rattle.shepherd.specs.declared.shepherd.Shepherd.{Shepherd}

-- The request that is open goes on in this container, and its session stands; its call is there until its program is
-- made.
pub record OpenGoesOn {P L : Type 0} (accepts : P → Parts → Type 0) (asks : P → List Answer → Next) (makes : L → LinkEvent → L → Type 0) (container : ContainerValue) (v : Visit P) (call : Option AskedCall) : Type 0 where
  pub goes_on : MayGoOn accepts asks container.boot v
  pub begin : Option ReadState
  pub session : SessionStands makes begin (events_of container) v
  pub asked : is_early v.work ≡ true → call ≢ None

-- A connection that has not ended goes on in this container: the journal is no shorter than it was for the item before,
-- and the request that is open goes on, if one is.
pub record IsGoing {P L : Type 0} (accepts : P → Parts → Type 0) (asks : P → List Answer → Next) (makes : L → LinkEvent → L → Type 0) (container : ContainerValue) (s : Shepherd P) : Type 0 where
  pub front : s.front.0 ≤ length container.boot.entries
  pub opened : IfOpen s.stage (OpenGoesOn accepts asks makes container)

-- A connection goes on, unless memory was wanted.
abbrev pub GoesOn : {P L : Type 0} → (P → Parts → Type 0) → (P → List Answer → Next) → (L → LinkEvent → L → Type 0) → ContainerValue → Shepherd P → Type 0
GoesOn accepts asks makes container s = s.wants_memory ≡ false → IsGoing accepts asks makes container s
