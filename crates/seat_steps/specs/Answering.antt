-- A connection of a scenario that answers its requests: what it put out are the responses to its items, and its items
-- are for the requests of its bytes.
use Rattle.std.specs.Prelude.{◌≡◌, ◌≢◌, ℕ, List, [], ◌∷◌, IfSome, None}
use Rattle.auction_calls.specs.declared.action.ActionCall.{ActionCall}
use Rattle.container_core.specs.declared.history.Event.{Event}
use Rattle.container_core.specs.declared.history.Event.TheVariants.{Started}
use Rattle.crash_base.specs.declared.numbers.BrickNo.{BrickNo}
use Rattle.crash_base.specs.declared.numbers.Moment.{Moment}
use Rattle.crash_base.specs.declared.numbers.SessionKey.{SessionKey}
use Rattle.crash_base.specs.declared.numbers.Version.{Version}
use Rattle.http_wire.specs.Taking.{taken_of}
use Rattle.http_wire.specs.declared.taken.Head.{Head}
use Rattle.outcome_items.specs.declared.item.Item.{Item}
use Rattle.request_visit.specs.Advancing.{cookie_in}
use Rattle.request_visit.specs.declared.visit.Fate.{Fate}
use Rattle.request_visit.specs.declared.visit.Fate.TheVariants.{Known, Writing}
use Rattle.request_visit.specs.declared.visit.Visit.{Visit}
use Rattle.request_visit.specs.declared.visit.Work.{Work}
use Rattle.request_visit.specs.declared.visit.Work.TheVariants.{Reading, Opening, Serving as ServingBy, Committed, Decided, Answered, Left}
use Rattle.session_cookie.specs.Text.{IsTextOf}
use Rattle.session_cookie.specs.declared.cookie.Cookie.{Cookie}
use Rattle.session_way.specs.Way.{answer_held}
use Rattle.session_way.specs.declared.way.SessionWay.{SessionWay}
use Rattle.session_way.specs.declared.way.SessionWay.TheVariants as way
use Rattle.shepherd.specs.Answering.{Answering, heads_in}
use Rattle.shepherd.specs.Shepherds.{turn}
use Rattle.shepherd.specs.Standing.{Standing}
use Rattle.shepherd.specs.declared.shepherd.Shepherd.{Shepherd}
use Rattle.shepherd.specs.declared.shepherd.ShepherdTurn.{ShepherdTurn}
use Rattle.shepherd.specs.declared.shepherd.ShepherdTurn.TheVariants as turns
use Rattle.shepherd.specs.declared.shepherd.Stage.{Stage}
use Rattle.shepherd.specs.declared.shepherd.Stage.TheVariants.{Resting, Serving, Refusing, Over}
use Rattle.shepherd_steps.specs.Alone.{alone}
use Rattle.ssm_stub.specs.Runs.{Fits, after}
use Rattle.ssm_stub.specs.Writes.{WriteState, write_machine, write_start}
use Rattle.ssm_stub.specs.declared.event.Told.{Told}
use Rattle.seat_steps.specs.Seats.{SeatGivens, SeatWorld, behind_event, making_by}
use Rattle.seat_steps.specs.declared.seat.Seat.{Seat}

-- A write has heard what came of its asks, one after another, since it began.
pub record HasHeard (here : WriteState) : Type 0 where
  pub bricks : List BrickNo
  pub least : ℕ
  pub nonce : Version
  pub key : SessionKey
  pub value : List ℕ
  pub expiry : Moment
  pub events : List Told
  pub fitting : Fits write_machine (write_start bricks least nonce key value expiry) events
  pub here_is : here ≡ after write_machine (write_start bricks least nonce key value expiry) events

-- the same of the write that a way holds, if it holds one
abbrev pub WriteHasHeard : SessionWay → Type 0
WriteHasHeard way.Resting = Unit {0}
WriteHasHeard (way.Reading r) = Unit {0}
WriteHasHeard (way.Ordered order) = Unit {0}
WriteHasHeard (way.Writing w) = HasHeard w.write
WriteHasHeard (way.Settling w) = HasHeard w.write
WriteHasHeard (way.Holding passes) = Unit {0}

-- a write that a response waited for has its answer
abbrev pub IsAnsweredFor : Fate → SessionWay → Type 0
IsAnsweredFor (Known became) w = Unit {0}
IsAnsweredFor (Writing place again) w = answer_held w ≢ None

-- the same, by how far its request has come: once its response is made
abbrev pub IsAnsweredAt : Work ActionCall → SessionWay → Type 0
IsAnsweredAt Reading w = Unit {0}
IsAnsweredAt Opening w = Unit {0}
IsAnsweredAt (ServingBy tries program) w = Unit {0}
IsAnsweredAt (Committed place again shown) w = Unit {0}
IsAnsweredAt (Decided became) w = Unit {0}
IsAnsweredAt (Answered fate bytes) w = IsAnsweredFor fate w
IsAnsweredAt (Left fate) w = IsAnsweredFor fate w

-- The write of a request, if one is held, has heard what came of its asks; and it has its answer once the response is
-- made.
pub record HearsItsWrite (v : Visit ActionCall) : Type 0 where
  pub heard : WriteHasHeard v.way
  pub answered : IsAnsweredAt v.work v.way

-- the same of the request that is open, if one is
abbrev pub StageHears : Stage ActionCall → Type 0
StageHears Resting = Unit {0}
StageHears (Serving v call) = HearsItsWrite v
StageHears (Refusing why bytes) = Unit {0}
StageHears (Over end) = Unit {0}

-- A connection of a scenario answers its requests: it stands for the heads of the requests that were taken off the
-- bytes that were fed to it; what it put out are the responses to its items, in order, as the history shows, each to a
-- request with the head in its place; and the write of the request that is open has heard what came of its asks.
pub record SeatAnswers (key : List ℕ) (history : List Event) (fed : List ℕ) (heads : List Head) (written : List ℕ) (items : List Item) (s : Shepherd ActionCall) : Type 0 where
  pub stands : Standing fed heads written items s
  pub answers : Answering key history heads written items s
  pub hears : StageHears s.stage

-- the history of the container of a world: its start, and the events since
abbrev pub events_in : SeatWorld → List Event
events_in w = Started w.boot.start ∷ w.since

-- the head of the request that is taken at a turn, if one is
abbrev pub heads_at : ShepherdTurn → Shepherd ActionCall → List Head
heads_at turns.Bytes s = []
heads_at turns.Request s = heads_in (taken_of s.received)
heads_at turns.Outside s = []
heads_at turns.Windows s = []
heads_at turns.Inside s = []
heads_at turns.Program s = []
heads_at turns.Own s = []
heads_at turns.Output s = []
heads_at turns.Item s = []
heads_at (turns.Ended end) s = []

-- The head of the request that the next step of a connection takes off its bytes, if it takes one.
abbrev pub heads_taken : Shepherd ActionCall → List Head
heads_taken s = heads_at (turn s) s

-- a cookie has a text under a key: its numbers are in their ranges
abbrev pub HasText : List ℕ → Cookie → Type 0
HasText key cookie = (text : List ℕ) × IsTextOf key cookie text

-- where a request is committed, the cookie that its write has answered, if it has answered one, has a text
abbrev pub ShowsAt : List ℕ → SessionWay → Work ActionCall → Type 0
ShowsAt key w Reading = Unit {0}
ShowsAt key w Opening = Unit {0}
ShowsAt key w (ServingBy tries program) = Unit {0}
ShowsAt key w (Committed place again shown) = IfSome (cookie_in (answer_held w)) (HasText key)
ShowsAt key w (Decided became) = Unit {0}
ShowsAt key w (Answered fate bytes) = Unit {0}
ShowsAt key w (Left fate) = Unit {0}

-- the same of the request that is open, if one is
abbrev pub StageShows : List ℕ → Stage ActionCall → Type 0
StageShows key Resting = Unit {0}
StageShows key (Serving v call) = ShowsAt key v.way v.work
StageShows key (Refusing why bytes) = Unit {0}
StageShows key (Over end) = Unit {0}

-- Where a connection is to make a response by itself, the cookie that it is to show, if it is to show one, has a text
-- under the key of the service.
abbrev pub ShowsText : List ℕ → Shepherd ActionCall → Type 0
ShowsText key s = turn s ≡ turns.Own → StageShows key s.stage

-- The cookies that a step of a seat shows have texts: the connection goes on by itself twice at most.
pub record ShowsTexts (g : SeatGivens) (seat : Seat) (w : SeatWorld) : Type 0 where
  pub first : ShowsText g.key (behind_event g seat w)
  pub second : ShowsText g.key (alone (making_by g) (behind_event g seat w)).0
