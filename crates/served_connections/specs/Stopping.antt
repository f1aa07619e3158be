-- A connection that memory was wanted for: what it has served by then, and what is left of it.
use Rattle.std.specs.Prelude.{◌≡◌, ◌⊎◌, ℕ, false, List, [], ◌++◌, map}
use Rattle.auction_calls.specs.declared.action.ActionCall.{ActionCall}
use Rattle.boot_core.specs.declared.boot.Start.{Start}
use Rattle.call_ticket.specs.declared.next.Answer.{Answer}
use Rattle.call_ticket.specs.declared.next.Next.{Next}
use Rattle.container_core.specs.declared.history.Event.{Event}
use Rattle.deployment.specs.declared.parts.Parts.{Parts}
use Rattle.outcome_items.specs.Traces.{uncounted}
use Rattle.outside.specs.Link.{Made}
use Rattle.outside.specs.declared.link.LinkCounts.{LinkCounts}
use Rattle.outside.specs.declared.link.LinkEvent.{LinkEvent}
use Rattle.request_intake.specs.Intakes.{Gives, Looks}
use Rattle.send_windows.specs.Windows.{WindowsValue}
use Rattle.send_windows.specs.declared.history.WindowMark.{WindowMark}
use Rattle.served_items.specs.Attributing.{Service}
use Rattle.session_way.specs.declared.way.SessionWay.TheVariants as way
use Rattle.shepherd.specs.Standing.{has_left}
use Rattle.shepherd.specs.Steps.{IfOpen}
use Rattle.shepherd.specs.Stopping.{Stopped}
use Rattle.shepherd.specs.declared.shepherd.Shepherd.{Shepherd}
use Rattle.shepherd.specs.declared.shepherd.Stage.{Stage}
use Rattle.served_connections.specs.Courses.{Begun, Course}
use Rattle.served_connections.specs.Resting.{last_at}
use Rattle.served_connections.specs.Serving.{Serves}

-- the response of the request that is open has not left
abbrev pub IsUnsent : {P : Type 0} → Stage P → Type 0
IsUnsent stage = IfOpen stage (λ v call. has_left v.work ≡ false)

-- nothing is held for the session of the request that is open
abbrev pub HoldsNothing : {P : Type 0} → Stage P → Type 0
HoldsNothing stage = IfOpen stage (λ v call. v.way ≡ way.Resting)

-- A connection is as it was when it had left these marks, and has left no more.
pub record IsAsBefore {P : Type 0} (was s : Shepherd P) (before marks : List WindowMark) : Type 0 where
  pub stage_is : s.stage ≡ was.stage
  pub marks_are : marks ≡ before

-- A connection was served so far, until memory was wanted, and it had not ended before. What it has added and left by
-- now is accounted for. The response of its open request has not left, or all of that request is as it was.
pub record ServesSoFar {P L M R S : Type 0} (accepts : P → Parts → Type 0) (asks : P → List Answer → Next) (calls : L → LinkEvent → L → Type 0) (makes : M → ActionCall → List ℕ → P → Type 0) (gives : Gives R) (looks : Looks S) (service : Service M) (start : Start) (begun : Begun) (history : List Event) (counts : LinkCounts) (now : ℕ) (c : Course) (s : Shepherd P) : Type 0 where
  pub was : Shepherd P
  pub before : List WindowMark
  pub served : Serves accepts asks calls makes gives looks service start begun history counts now (record c { marks = before }) was
  pub unended : last_at was.stage ≡ []
  pub stopped : Stopped asks start history c.own c.marks c.items s
  pub open_so : (IsUnsent was.stage × IsUnsent s.stage) ⊎ IsAsBefore was s before c.marks

-- A step in the windows left these marks, and the connection was served so far with them.
pub record StopsLeaving {P L M R S : Type 0} (accepts : P → Parts → Type 0) (asks : P → List Answer → Next) (calls : L → LinkEvent → L → Type 0) (makes : M → ActionCall → List ℕ → P → Type 0) (gives : Gives R) (looks : Looks S) (service : Service M) (start : Start) (begun : Begun) (history : List Event) (counts : LinkCounts) (now : ℕ) (c : Course) (s : Shepherd P) (windows after : WindowsValue) : Type 0 where
  pub added : List WindowMark
  pub grown : after.history ≡ windows.history ++ added
  pub so_far : ServesSoFar accepts asks calls makes gives looks service start begun history counts now (record c { marks = c.marks ++ map uncounted added }) s

-- A step of the link made these calls before memory was wanted, and the connection was served so far with them.
pub record StopsCalling {P L M R S : Type 0} (accepts : P → Parts → Type 0) (asks : P → List Answer → Next) (calls : L → LinkEvent → L → Type 0) (makes : M → ActionCall → List ℕ → P → Type 0) (gives : Gives R) (looks : Looks S) (service : Service M) (start : Start) (begun : Begun) (history : List Event) (counts : LinkCounts) (now : ℕ) (c : Course) (s : Shepherd P) (link after : L) : Type 0 where
  pub made : List LinkEvent
  pub leads : Made calls link made after
  pub so_far : ServesSoFar accepts asks calls makes gives looks service start begun history counts now (record c { heard = c.heard ++ made }) s
