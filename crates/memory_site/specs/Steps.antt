-- What the steps of a connection do, and what is left where one is given up.
use Rattle.std.specs.Prelude.{◌≡◌, ℕ, false, true, List, Option, Some, None}
use Rattle.auction_calls.specs.declared.action.ActionCall.{ActionCall}
use Rattle.auction_site.specs.Actions.{steps_of}
use Rattle.container_core.specs.Container.{ContainerValue}
use Rattle.link_memory.specs.Script.{ScriptMakes, ScriptValue, script_tally}
use Rattle.memory_site.specs.declared.steps.StepEnd.{StepEnd}
use Rattle.memory_site.specs.declared.steps.StepEnd.TheVariants as ends
use Rattle.memory_site.specs.declared.surroundings.Surroundings.{Surroundings}
use Rattle.memory_site.specs.declared.surroundings.TheConstants.{NODE, WORKER}
use Rattle.outcome_items.specs.declared.item.Item.{Item}
use Rattle.outside.specs.Clock.{PlainClockValue}
use Rattle.outside.specs.Random.{PlainGives}
use Rattle.outside.specs.Serials.{PlainLooks}
use Rattle.request_intake.specs.declared.intake.HomeBoot.{HomeBoot}
use Rattle.request_tries.specs.Steps.{KeepsNothing}
use Rattle.request_visit.specs.Advancing.{Advances}
use Rattle.request_visit.specs.Stepping.{VisitsInside, VisitsWindows, counted}
use Rattle.request_visit.specs.declared.visit.Work.TheVariants.{Opening}
use Rattle.send_windows.specs.Windows.{WindowsValue}
use Rattle.send_windows.specs.declared.windows.TakeRefusal.TheVariants as refusal
use Rattle.session_way.specs.Way.{IsRefused}
use Rattle.shepherd.specs.Shepherds.{has_item}
use Rattle.shepherd.specs.Steps.{GivesBack, IsServedStill, OnVisit, OpensStage, PutsOut, ShepherdSteps, StepsVisit, TakesItem, TakesRequest, VisitsOutside, dropped_stage}
use Rattle.shepherd.specs.declared.shepherd.Shepherd.{Shepherd}
use Rattle.shepherd.specs.declared.shepherd.ShepherdTurn.{ShepherdTurn}
use Rattle.shepherd.specs.declared.shepherd.ShepherdTurn.TheVariants as turns
use Rattle.shepherd.specs.declared.shepherd.Stage.{Stage}
use Rattle.shepherd.specs.declared.shepherd.Stage.TheVariants.{Serving}
use Rattle.site_programs.specs.Errands.{IsMadeOf}
use Rattle.site_programs.specs.declared.maker.SiteMaker.{SiteMaker}

-- surroundings, as the steps of connections see them
pub record SurroundingsValue : Type 0 where
  pub container : ContainerValue
  pub windows : WindowsValue
  pub link : ScriptValue
  pub clock : PlainClockValue
  pub random : ℕ
  pub serials : ℕ
  pub key : List ℕ

-- the value of surroundings
abbrev pub value_of : Surroundings → SurroundingsValue
value_of a = record {
  container = a.container;
  windows = a.windows;
  link = a.link;
  clock = a.clock;
  random = a.random;
  serials = a.serials;
  key = a.key;
}

-- the node and the boot by which requests are served: the boot is the container's
abbrev pub home_in : SurroundingsValue → HomeBoot
home_in around = record { node = NODE; boot = around.container.boot.start.boot }

-- A request was taken off the bytes of a connection there.
abbrev pub TakesThere : SurroundingsValue → Shepherd ActionCall → SurroundingsValue → Shepherd ActionCall → Type 0
TakesThere around s after new =
    TakesRequest (λ (clock : PlainClockValue). clock.told.0) PlainGives PlainLooks around.key (home_in around) (counted (script_tally around.link))
    s around.clock around.random around.serials new after.clock after.random after.serials

-- The step of a connection at this turn: what it tells, and what it leaves of the connection and of its surroundings,
-- of which nothing else changes.
abbrev pub StepsAt : ShepherdTurn → SurroundingsValue → Shepherd ActionCall → StepEnd → SurroundingsValue → Shepherd ActionCall → Type 0
StepsAt turns.Bytes around s end after new = (end ≡ ends.Waits) × (new ≡ s) × (after ≡ around)
StepsAt turns.Request around s end after new =
    (end ≡ ends.Called) × TakesThere around s after new
    × (after ≡ record around { clock = after.clock; random = after.random; serials = after.serials })
StepsAt turns.Outside around s end after new =
    (end ≡ ends.Called) × ShepherdSteps (λ v w. VisitsOutside ScriptMakes script_tally v around.link w after.link) s new
    × (after ≡ record around { link = after.link })
StepsAt turns.Windows around s end after new =
    (end ≡ ends.Called) × ShepherdSteps (λ v w. VisitsWindows v around.windows w after.windows) s new
    × (after ≡ record around { windows = after.windows })
StepsAt turns.Inside around s end after new =
    (end ≡ ends.Called) × ShepherdSteps (λ v w. VisitsInside steps_of v around.container w after.container) s new
    × (after ≡ record around { container = after.container })
StepsAt turns.Program around s end after new =
    (end ≡ ends.Alone) × ((maker : SiteMaker) × OpensStage (λ (m : SiteMaker). IsMadeOf) maker WORKER s.stage new.stage)
    × (new ≡ record s { stage = new.stage }) × (after ≡ around)
StepsAt turns.Own around s end after new =
    (end ≡ ends.Alone) × ShepherdSteps (λ v w. Advances around.key v v.work w) s new × (after ≡ around)
StepsAt turns.Output around s end after new =
    (bytes : List ℕ) × (end ≡ ends.Response bytes) × PutsOut s.stage bytes new.stage
    × (new ≡ record s { stage = new.stage }) × (after ≡ around)
StepsAt turns.Item around s end after new =
    (item : Item) × (end ≡ ends.Item item) × TakesItem s.stage item new.stage
    × (new ≡ record s { front = item.holds.front; stage = new.stage }) × (after ≡ around)
StepsAt (turns.Ended why) around s end after new = (end ≡ ends.Ended why) × (new ≡ s) × (after ≡ around)

-- What a step at this turn leaves of a connection and of its surroundings where memory was wanted: the connection has
-- ended, its request is as that step of `Shepherd` says, and of the surroundings only what the turn calls may have
-- changed; to the history of the container nothing was added, and its keeper has kept nothing, as far as it tells.
abbrev pub WantsAt : ShepherdTurn → SurroundingsValue → Shepherd ActionCall → SurroundingsValue → Shepherd ActionCall → Type 0
WantsAt turns.Request around s after new =
    (new.stage ≡ s.stage) × (new.wants_memory ≡ true)
    × (after ≡ record around { clock = after.clock; random = after.random; serials = after.serials })
WantsAt turns.Outside around s after new =
    (new ≡ record s { wants_memory = true }) × (after ≡ record around { link = after.link })
WantsAt turns.Windows around s after new =
    StepsVisit (λ v w. IsRefused v.way around.windows w.way after.windows refusal.OutOfMemory) s.stage new.stage
    × StepsVisit (λ v w. w ≡ record v { way = w.way }) s.stage new.stage
    × (new ≡ record s { stage = new.stage; wants_memory = true }) × (after ≡ record around { windows = after.windows })
WantsAt turns.Inside around s after new =
    StepsVisit IsServedStill s.stage new.stage × (new ≡ record s { stage = new.stage; wants_memory = true })
    × (after.container.since ≡ around.container.since) × KeepsNothing around.container after.container
    × (after ≡ record around { container = after.container })
WantsAt turns.Program around s after new =
    OnVisit s.stage (λ v call. new.stage ≡ Serving v None)
    × (new ≡ record s { stage = new.stage; wants_memory = true }) × (after ≡ around)
WantsAt turns.Own around s after new =
    StepsVisit (λ v w. w ≡ record v { work = Opening }) s.stage new.stage
    × (new ≡ record s { stage = new.stage; wants_memory = true }) × (after ≡ around)
WantsAt turns.Bytes around s after new = ⊥
WantsAt turns.Output around s after new = ⊥
WantsAt turns.Item around s after new = ⊥
WantsAt (turns.Ended why) around s after new = ⊥

-- The item of the request that is open, where nothing is left to be done for it.
abbrev pub IsItemLeft : Stage ActionCall → Option Item → Type 0
IsItemLeft stage None = has_item stage ≡ false
IsItemLeft stage (Some item) = (after : Stage ActionCall) × TakesItem stage item after

-- A connection is given up: its call is, its passes are given back, and this item is left of it. Of the surroundings
-- only the windows change.
pub record IsGivenUp (around : SurroundingsValue) (s : Shepherd ActionCall) (item : Option Item) (after : SurroundingsValue) : Type 0 where
  pub stage : Stage ActionCall
  pub back : GivesBack (dropped_stage s.stage) around.windows stage after.windows
  pub left : IsItemLeft stage item
  pub rest : after ≡ record around { windows = after.windows }
