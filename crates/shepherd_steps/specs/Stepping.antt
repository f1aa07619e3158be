-- One step of a connection, as a function of all that it may change.
use Rattle.std.specs.Prelude.{◌≡◌, ℕ, Bool, List, [], Option}
use Rattle.auction_calls.specs.declared.action.ActionCall.{ActionCall}
use Rattle.boot_core.specs.Boot.{BootValue}
use Rattle.call_ticket.specs.declared.next.Answer.{Answer}
use Rattle.call_ticket.specs.declared.next.Next.{Next}
use Rattle.container_core.specs.Container.{ContainerValue}
use Rattle.container_core.specs.declared.history.Event.{Event}
use Rattle.crash_base.specs.declared.numbers.Moment.{Moment}
use Rattle.http_wire.specs.Taking.{taken_of}
use Rattle.http_wire.specs.declared.taken.Head.{Head}
use Rattle.http_wire.specs.declared.taken.Taken.TheVariants.{Request}
use Rattle.outcome_items.specs.declared.item.Item.{Item}
use Rattle.outside.specs.Link.{Tally}
use Rattle.outside.specs.declared.link.LinkEvent.{LinkEvent}
use Rattle.request_decisions.specs.Decisions.{IsDecided}
use Rattle.request_intake.specs.Intakes.{Gives, Looks}
use Rattle.request_visit.specs.Stepping.{VisitsInside, VisitsWindows, counted}
use Rattle.request_visit.specs.declared.visit.Visit.{Visit}
use Rattle.send_windows.specs.Windows.{WindowsValue}
use Rattle.shepherd.specs.Shepherds.{turn}
use Rattle.shepherd.specs.Steps.{OnVisit, PutsOut, ShepherdSteps, TakesRequest, VisitsOutside}
use Rattle.shepherd.specs.declared.shepherd.AskedCall.{AskedCall}
use Rattle.shepherd.specs.declared.shepherd.Shepherd.{Shepherd}
use Rattle.shepherd.specs.declared.shepherd.ShepherdTurn.{ShepherdTurn}
use Rattle.shepherd.specs.declared.shepherd.ShepherdTurn.TheVariants as turns
use Rattle.shepherd.specs.declared.shepherd.Stage.{Stage}
use Rattle.shepherd.specs.declared.shepherd.Stage.TheVariants.{Resting, Serving, Refusing, Over}
use Rattle.shepherd_steps.specs.Inside.{HasReplied, added_to, handed, inside}
use Rattle.shepherd_steps.specs.Leaving.{output_of}
use Rattle.shepherd_steps.specs.Opening.{MakesJust}
use Rattle.shepherd_steps.specs.Outside.{AnswersBy, Replies, outside}
use Rattle.shepherd_steps.specs.Passes.{windows_step}
use Rattle.shepherd_steps.specs.Alone.{GoesAloneThrough, Making, gone_alone}
use Rattle.shepherd_steps.specs.Taking.{AreInTurn, Counts, Service, take_request}

-- All that a step of a connection may change: the connection; the boot, and the events since its start; the windows;
-- the link; and how many numbers were drawn.
pub record World (P L : Type 0) : Type 0 where
  pub connection : Shepherd P
  pub boot : BootValue
  pub since : List Event
  pub windows : WindowsValue
  pub link : L
  pub drawn : Counts

-- What a step is given: the service, and how programs are made; what programs ask; what the link answers, and has
-- counted; what the clock tells; and whether the keeper keeps what it is handed.
pub record Givens (P L : Type 0) : Type 0 where
  pub service : Service
  pub making : Making P
  pub asks : P → List Answer → Next
  pub replies : Replies L
  pub tally : L → Tally
  pub now : Moment
  pub keeps : Bool

-- a world whose connection has come to this stage
abbrev pub at_stage : {P L : Type 0} → World P L → Stage P → World P L
at_stage w stage = record w { connection = record w.connection { stage = stage } }

-- a stage after a step of the request that is open, and what that stepped in
abbrev pub steps_in : {P X : Type 0} → (Visit P → X → Visit P × X) → Stage P → X → Stage P × X
steps_in step Resting x = (Resting, x)
steps_in step (Serving v call) x = (Serving (step v x).0 call, (step v x).1)
steps_in step (Refusing why bytes) x = (Refusing why bytes, x)
steps_in step (Over end) x = (Over end, x)

-- the step of a request in a boot and the events since its start
abbrev pub step_inside : {P : Type 0} → (P → List Answer → Next) → Bool → Visit P → BootValue × List Event → Visit P × (BootValue × List Event)
step_inside asks keeps v x = let i = inside asks keeps v x.0 x.1 in (i.visit, (i.boot, i.since))

-- a world after a request was taken
abbrev pub after_request : {P L : Type 0} → Givens P L → World P L → World P L
after_request g w =
    let s = take_request g.service (counted (g.tally w.link)) g.now w.connection w.drawn in
    record w { connection = s.0; drawn = s.1 }

-- a world after a step outside
abbrev pub after_outside : {P L : Type 0} → Givens P L → World P L → World P L
after_outside g w =
    let s = steps_in (outside g.replies g.tally) w.connection.stage w.link in record (at_stage w s.0) { link = s.1 }

-- a world after a step in the windows
abbrev pub after_windows : {P L : Type 0} → World P L → World P L
after_windows w = let s = steps_in windows_step w.connection.stage w.windows in record (at_stage w s.0) { windows = s.1 }

-- a world after a step in the container
abbrev pub after_inside : {P L : Type 0} → Givens P L → World P L → World P L
after_inside g w =
    let s = steps_in (step_inside g.asks g.keeps) w.connection.stage (w.boot, w.since) in
    record (at_stage w s.0) { boot = s.1.0; since = s.1.1 }

-- a world after bytes were put out, and these
abbrev pub after_output : {P L : Type 0} → World P L → World P L × List ℕ
after_output w = let o = output_of w.connection.stage in (at_stage w o.1, o.0)

-- A world after the event at a turn, and the bytes that were put out.
abbrev pub event_at : {P L : Type 0} → Givens P L → ShepherdTurn → World P L → World P L × List ℕ
event_at g turns.Bytes w = (w, [])
event_at g turns.Request w = (after_request g w, [])
event_at g turns.Outside w = (after_outside g w, [])
event_at g turns.Windows w = (after_windows w, [])
event_at g turns.Inside w = (after_inside g w, [])
event_at g turns.Program w = (w, [])
event_at g turns.Own w = (w, [])
event_at g turns.Output w = after_output w
event_at g turns.Item w = (w, [])
event_at g (turns.Ended end) w = (w, [])

-- What a step leaves: the world, the bytes that were put out, and the items that were taken.
pub record Outcome (P L : Type 0) : Type 0 where
  pub world : World P L
  pub bytes : List ℕ
  pub items : List Item

-- a step from an event on: the connection does by itself what it then does
abbrev pub alone_after : {P L : Type 0} → Making P → World P L × List ℕ → Outcome P L
alone_after m event =
    let rest = gone_alone m event.0.connection in
    record { world = record event.0 { connection = rest.0 }; bytes = event.1; items = rest.1 }

-- The step of a connection: one event, by whose step is next, and what the connection does by itself then.
unfoldable pub step : {P L : Type 0} → Givens P L → World P L → Outcome P L
step g w = alone_after g.making (event_at g (turn w.connection) w)

-- All that the calls of a connection are made with.
pub record Calling (P L C R S : Type 0) : Type 0 where
  pub connection : Shepherd P
  pub container : ContainerValue
  pub windows : WindowsValue
  pub link : L
  pub clock : C
  pub random : R
  pub serials : S

-- the same, where so many numbers were drawn, as a world
abbrev pub world_of : {P L C R S : Type 0} → Calling P L C R S → Counts → World P L
world_of x drawn = record {
  connection = x.connection;
  boot = x.container.boot;
  since = x.container.since;
  windows = x.windows;
  link = x.link;
  drawn = drawn;
}

module _ {P L M C R S : Type 0} (makes : L → LinkEvent → L → Type 0) (opens : M → ActionCall → List ℕ → P → Type 0) (told : C → ℕ) (gives : Gives R) (looks : Looks S) (g : Givens P L) where
  -- A request was taken, and the clock told the moment, if one began.
  pub record CallsRequest (old new : Calling P L C R S) (bytes : List ℕ) : Type 0 where
    pub takes : TakesRequest told gives looks g.service.key g.service.home (counted (g.tally old.link)) old.connection old.clock old.random old.serials new.connection new.clock new.random new.serials
    pub told_is : (head : Head) → taken_of old.connection.received ≡ Request head → told new.clock ≡ g.now.0
    pub rest : new ≡ record old { connection = new.connection; clock = new.clock; random = new.random; serials = new.serials }
    pub bytes_are : bytes ≡ []

  -- One call of the link was made.
  pub record CallsLink (old new : Calling P L C R S) (bytes : List ℕ) : Type 0 where
    pub steps : ShepherdSteps (λ (v w : Visit P). VisitsOutside makes g.tally v old.link w new.link) old.connection new.connection
    pub rest : new ≡ record old { connection = new.connection; link = new.link }
    pub bytes_are : bytes ≡ []

  -- One call of the windows was made.
  pub record CallsWindows (old new : Calling P L C R S) (bytes : List ℕ) : Type 0 where
    pub steps : ShepherdSteps (λ (v w : Visit P). VisitsWindows v old.windows w new.windows) old.connection new.connection
    pub rest : new ≡ record old { connection = new.connection; windows = new.windows }
    pub bytes_are : bytes ≡ []

  -- A step was made in the container, and the keeper replied, if it was called.
  pub record CallsContainer (old new : Calling P L C R S) (bytes : List ℕ) : Type 0 where
    pub steps : ShepherdSteps (λ (v w : Visit P). VisitsInside g.asks v old.container w new.container) old.connection new.connection
    pub replies : OnVisit old.connection.stage (λ (v : Visit P) (call : Option AskedCall). HasReplied g.keeps (handed g.asks v old.container.boot) (added_to old.container.since new.container.since))
    pub rest : new ≡ record old { connection = new.connection; container = new.container }
    pub bytes_are : bytes ≡ []

  -- Bytes were put out.
  pub record CallsOutput (old new : Calling P L C R S) (bytes : List ℕ) : Type 0 where
    pub puts : PutsOut old.connection.stage bytes new.connection.stage
    pub rest : new ≡ record old { connection = record old.connection { stage = new.connection.stage } }

  -- No call was made.
  pub record CallsNothing (old new : Calling P L C R S) (bytes : List ℕ) : Type 0 where
    pub same : new ≡ old
    pub bytes_are : bytes ≡ []

  -- The call was made that is an event at a turn, and put out these bytes; at a turn that has no such call, none was.
  abbrev pub Calls : ShepherdTurn → Calling P L C R S → Calling P L C R S → List ℕ → Type 0
  Calls turns.Bytes old new bytes = CallsNothing old new bytes
  Calls turns.Request old new bytes = CallsRequest old new bytes
  Calls turns.Outside old new bytes = CallsLink old new bytes
  Calls turns.Windows old new bytes = CallsWindows old new bytes
  Calls turns.Inside old new bytes = CallsContainer old new bytes
  Calls turns.Program old new bytes = CallsNothing old new bytes
  Calls turns.Own old new bytes = CallsNothing old new bytes
  Calls turns.Output old new bytes = CallsOutput old new bytes
  Calls turns.Item old new bytes = CallsNothing old new bytes
  Calls (turns.Ended end) old new bytes = CallsNothing old new bytes

  -- A connection made its call that is an event, and then those by which it goes on by itself, until others are to
  -- step.
  pub record MakesStep (maker : M) (old new : Calling P L C R S) (bytes : List ℕ) (items : List Item) : Type 0 where
    pub mid : Calling P L C R S
    pub calls : Calls (turn old.connection) old mid bytes
    pub through : List (Shepherd P × List Item)
    pub alone : GoesAloneThrough opens maker g.making.worker g.making.key through mid.connection new.connection items
    pub rest : new ≡ record mid { connection = new.connection }

  -- The link, the service, the sources of numbers and the maker are functions: they answer, decide, give and make just
  -- what is given here.
  pub record AreFunctions (maker : M) (words : ℕ → R) (serials : ℕ → S) : Type 0 where
    pub answers : AnswersBy makes g.replies
    pub decides : (head : Head) → IsDecided g.service.key g.service.home.boot head (g.service.decides head)
    pub in_turn : AreInTurn gives looks words serials g.service.numbers
    pub made : MakesJust opens maker g.making.made

-- A step left this: the world, the bytes and the items; and the sources of numbers have come as far.
pub record Leaves {P L C R S : Type 0} (words : ℕ → R) (serials : ℕ → S) (new : Calling P L C R S) (bytes : List ℕ) (items : List Item) (o : Outcome P L) : Type 0 where
  pub world_is : world_of new o.world.drawn ≡ o.world
  pub bytes_are : bytes ≡ o.bytes
  pub items_are : items ≡ o.items
  pub random_is : new.random ≡ words o.world.drawn.words
  pub serials_is : new.serials ≡ serials o.world.drawn.serials
