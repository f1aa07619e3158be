-- The state of a scenario, and how a line ends in it.
use Rattle.std.specs.Prelude.{ℕ, Bool, List}
use Rattle.boot_core.specs.Boot.{BootValue}
use Rattle.container_core.specs.Container.{ContainerValue}
use Rattle.container_core.specs.declared.history.Event.{Event}
use Rattle.line_steps.specs.declared.callers.Caller.{Caller}
use Rattle.line_steps.specs.declared.head.Head.{Head}
use Rattle.seat_lines.specs.Site.{SeatsState, SiteState}
use Rattle.session_steps.specs.Sessions.{SessionsState}
use Rattle.scenario_engine.specs.KeeperCalls.{KeeperSeen, seen}
use Rattle.scenario_engine.specs.declared.failure.UnstartedCause.{UnstartedCause}

-- a boot that is started, the events of its history since its start, its callers, the sessions, the connections, and
-- whether the deployment is that of the site
pub record RunningState : Type 0 where
  pub boot : BootValue
  pub since : List Event
  pub callers : List Caller
  pub sessions : SessionsState
  pub seats : SeatsState
  pub site : Bool

-- what a line about connections may change
abbrev pub site_of : RunningState → SiteState
site_of r = record { boot = r.boot; since = r.since; sessions = r.sessions; seats = r.seats }

-- the same callers, where a line about connections left this
abbrev pub with_site : RunningState → SiteState → RunningState
with_site r s = record r { boot = s.boot; since = s.since; sessions = s.sessions; seats = s.seats }

-- Head lines build a deployment and set limits. The first event line starts the boot over them.
pub data State : Type 0 where
  Heading : (head : Head) → State
  Running : (running : RunningState) → State

-- A line is refused, in this state: an event line has a boot there, which it has started where there was none. Or it is
-- done, which leaves this state, and writes this text. Or the boot that it needs was left unstarted, for
-- this cause. Or it is under way: the steps of a connection that the keeper has replied to led to this state, and the
-- line makes more.
pub data Outcome : Type 0 where
  RefusedIn : (state : State) → Outcome
  DoneTo : (state : State) (text : List ℕ) → Outcome
  UnstartedIn : (state : State) (cause : UnstartedCause) → Outcome
  UnderWayIn : (state : State) → Outcome

-- a boot that is started, with its keeper
pub record RunningValue : Type 0 where
  pub running : RunningState
  pub keeper : KeeperSeen

-- a container, its callers, the sessions, the connections, and whether its deployment is that of the site
abbrev pub running_value : ContainerValue → List Caller → SessionsState → SeatsState → Bool → RunningValue
running_value c callers sessions seats site = record {
  running = record {
    boot = c.boot;
    since = c.since;
    callers = callers;
    sessions = sessions;
    seats = seats;
    site = site;
  };
  keeper = seen c.told c.faults;
}

-- a scenario, with its keeper
pub record EngineValue : Type 0 where
  pub state : State
  pub keeper : KeeperSeen
