-- What is left where a seat is given up.
use Rattle.std.specs.Prelude.{◌≡◌, false, Option, Some, None}
use Rattle.auction_calls.specs.declared.action.ActionCall.{ActionCall}
use Rattle.outcome_items.specs.declared.item.Item.{Item}
use Rattle.request_visit.specs.Advancing.{item_of}
use Rattle.request_visit.specs.Stepping.{dropped}
use Rattle.request_visit.specs.Visits.{after_outcome}
use Rattle.request_visit.specs.declared.visit.Visit.{Visit}
use Rattle.request_visit.specs.declared.visit.Work.{Work}
use Rattle.request_visit.specs.declared.visit.Work.TheVariants.{Reading, Opening, Serving as ServingBy, Committed, Decided, Answered, Left}
use Rattle.session_lanes.specs.Lanes.{LanesState}
use Rattle.session_way.specs.Way.{after_give_back, answer_held, held}
use Rattle.session_way.specs.declared.way.SessionWay.TheVariants as way
use Rattle.shepherd.specs.Shepherds.{has_item}
use Rattle.shepherd.specs.Steps.{TakesItem}
use Rattle.shepherd.specs.declared.shepherd.Stage.{Stage}
use Rattle.shepherd.specs.declared.shepherd.Stage.TheVariants.{Resting, Serving, Refusing, Over}
use Rattle.shepherd_steps.specs.Passes.{outcome_of}
use Rattle.seat_steps.specs.Twinned.{way_in}
use Rattle.seat_steps.specs.declared.seat.Seat.{Seat}

-- a request whose call was given up, and which gave back its passes: it is told what its write came to
abbrev pub visit_gone : Visit ActionCall → Visit ActionCall
visit_gone v = after_outcome (outcome_of (answer_held v.way)) (record v { way = way.Resting; work = dropped v.work })

-- the item of a request of this work: its response has left
abbrev pub item_by_work : Visit ActionCall → Work ActionCall → Option Item
item_by_work v Reading = None
item_by_work v Opening = None
item_by_work v (ServingBy tries program) = None
item_by_work v (Committed place again shown) = None
item_by_work v (Decided became) = None
item_by_work v (Answered fate bytes) = None
item_by_work v (Left fate) = Some (item_of v fate)

-- the item that is left of the request that is open, if one is
abbrev pub item_left : Stage ActionCall → Option Item
item_left Resting = None
item_left (Serving v call) = item_by_work (visit_gone v) (visit_gone v).work
item_left (Refusing why bytes) = None
item_left (Over end) = None

-- What is left of a seat: the lanes, with its passes given back to their windows, and the item of a request whose
-- response has left. Its twin stays in the world, and goes no further.
pub record SeatGone : Type 0 where
  pub store : LanesState
  pub item : Option Item

-- what is left of a connection at this stage
unfoldable pub stage_gone : Stage ActionCall → LanesState → SeatGone
stage_gone stage st = record {
  store = record st { windows = after_give_back st.windows (held (way_in stage)) };
  item = item_left stage;
}

-- What is left where a seat is given up.
abbrev pub seat_gone : Seat → LanesState → SeatGone
seat_gone seat st = stage_gone seat.connection.stage st

-- The item of the request that is open, where nothing is left to be done for it.
abbrev pub IsItemLeft : Stage ActionCall → Option Item → Type 0
IsItemLeft stage None = has_item stage ≡ false
IsItemLeft stage (Some item) = (after : Stage ActionCall) × TakesItem stage item after
