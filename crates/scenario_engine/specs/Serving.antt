-- What connections of browsers serve in a scenario, each from the line on by which it opened.
use Rattle.std.specs.Prelude.{◌≡◌, ◌≢◌, ◌⊎◌, ℕ, All, nat_eq, filter, if◌then◌else◌, Bool, true, false, List, [], ◌∷◌, ◌++◌, length, map, Option, Some, None}
use Rattle.std.specs.List.{flat_map}
use Rattle.auction_calls.specs.declared.action.ActionCall.{ActionCall}
use Rattle.failure_scores.specs.declared.report.FailureReport.{FailureReport}
use Rattle.outcome_items.specs.declared.item.Item.{Item}
use Rattle.request_decisions.specs.declared.draws.Draw.{Draw}
use Rattle.scenario_text.specs.Reading.{line_of}
use Rattle.scenario_text.specs.declared.line.Line.{Line}
use Rattle.scenario_text.specs.declared.line.Line.TheVariants as lines
use Rattle.scenario_text.specs.declared.seat_line.SeatLine.TheVariants as seats
use Rattle.seat_laws.specs.Serving.{Course, DrewNext, ItemsFollow, SeatServes, history_in}
use Rattle.seat_lines.specs.Changing.{number_in}
use Rattle.seat_lines.specs.Items.{items_at, outs_at, step_yields}
use Rattle.seat_lines.specs.Lines.{moves, world_of}
use Rattle.seat_lines.specs.Making.{StepMade}
use Rattle.seat_lines.specs.Responding.{bytes_by, in_row}
use Rattle.seat_lines.specs.Site.{SiteState, seat_at}
use Rattle.seat_steps.specs.Seats.{SeatWorld}
use Rattle.seat_steps.specs.declared.seat.Seat.{Seat}
use Rattle.session_lanes.specs.Lanes.{LanesState}
use Rattle.shepherd.specs.Shepherds.{turn}
use Rattle.shepherd.specs.declared.shepherd.EndKind.{EndKind}
use Rattle.shepherd.specs.declared.shepherd.Shepherd.{Shepherd}
use Rattle.shepherd.specs.declared.shepherd.ShepherdTurn.TheVariants as turns
use Rattle.scenario_engine.specs.Connections.{made_from, step_leaves}
use Rattle.scenario_engine.specs.Reports.{reports_by, step_reports}
use Rattle.scenario_engine.specs.State.{RunningState, Running, site_of}
use Rattle.scenario_engine.specs.Transcript.{Turn, Ended, UnderWay, first, end_from}

-- the bytes that come to the connection of a number by a line
abbrev pub bytes_to : ℕ → Line → List ℕ
bytes_to n lines.Pass = []
bytes_to n (lines.Head line) = []
bytes_to n (lines.Call caller line) = []
bytes_to n (lines.Commit caller) = []
bytes_to n (lines.Boot line) = []
bytes_to n lines.Reopen = []
bytes_to n (lines.Session line) = []
bytes_to n (lines.Seat line) = if nat_eq (number_in line) n then bytes_by line else []

-- the same of a text that spells this line, or none
abbrev pub bytes_of : ℕ → Option Line → List ℕ
bytes_of n None = []
bytes_of n (Some line) = bytes_to n line

-- The bytes that come to the connection of a number by turns that are done, in order.
abbrev pub bytes_in : ℕ → List Turn → List ℕ
bytes_in n turns = flat_map (λ (turn : Turn). bytes_of n (line_of turn.line)) turns

-- The steps among these that the connection of a number made, in order.
abbrev pub steps_of : ℕ → List StepMade → List StepMade
steps_of n steps = filter (λ (step : StepMade). nat_eq step.number n) steps

-- what was put out by steps, in order
abbrev pub written_by : List StepMade → List ℕ
written_by steps = flat_map (λ (step : StepMade). in_row (step_yields outs_at step.site step.number step.keeps)) steps

-- the items that they gave, in order
abbrev pub items_by : List StepMade → List Item
items_by steps = flat_map (λ (step : StepMade). step_yields items_at step.site step.number step.keeps) steps

-- what they reported of requests that failed, in order
abbrev pub reported_by : List StepMade → List FailureReport
reported_by steps = reports_by (flat_map step_reports steps)

-- A step of a connection, and the numbers that were drawn in it for requests.
pub record StepDraws : Type 0 where
  pub step : StepMade
  pub drawn : List Draw

-- where a step moves its connection, these numbers were drawn from one world to the other, each as it was next; else
-- none was
abbrev pub DrawsBetween : Bool → SeatWorld → List Draw → SeatWorld → Type 0
DrawsBetween true w drawn after = DrewNext w drawn after
DrawsBetween false w drawn after = drawn ≡ []

-- The connection of a step was there, and drew these numbers in it.
pub record DrewInStep (d : StepDraws) : Type 0 where
  pub seat : Seat
  pub bricks : LanesState
  pub seat_is : seat_at d.step.site.seats.seats d.step.number ≡ Some seat
  pub bricks_are : d.step.site.sessions.store ≡ Some bricks
  pub drew : DrawsBetween (moves (turn seat.connection)) (world_of d.step.site bricks) d.drawn (step_leaves d.step seat bricks).world

-- A connection made the last of these steps, and went by it, since it had ended.
pub record WentBy (steps : List StepMade) (s : Shepherd ActionCall) : Type 0 where
  pub before : List StepMade
  pub last : StepMade
  pub steps_are : steps ≡ before ++ last ∷ []
  pub seat : Seat
  pub seat_is : seat_at last.site.seats.seats last.number ≡ Some seat
  pub connection_is : s ≡ seat.connection
  pub end : EndKind
  pub ended : turn s ≡ turns.Ended end

-- which connection made these steps: the one that is there; or the one that went by the last of them
abbrev pub IsOf : List StepMade → Option Seat → Shepherd ActionCall → Type 0
IsOf steps (Some seat) s = s ≡ seat.connection
IsOf steps None s = WentBy steps s

-- how far a connection has come that opened in a site, by these bytes and these steps
abbrev pub course_of : SiteState → List ℕ → List StepDraws → Course
course_of opened fed draws =
    (let steps = map (λ (d : StepDraws). d.step) draws in record {
      opened = opened.sessions.moment;
      behind = length (history_in opened.boot opened.since);
      fed = fed;
      drawn = flat_map (λ (d : StepDraws). d.drawn) draws;
      written = written_by steps;
      items = items_by steps;
      reports = reported_by steps;
    })

-- The connection of a number, which opened in a site, has served its requests in another, which these bytes and these
-- steps of it led to: it serves them by what was drawn in its steps, by what they put out, by the items that they gave,
-- and by what they reported, in order. The items follow on one another in the journal.
pub record HasServed (n : ℕ) (opened : SiteState) (fed : List ℕ) (steps : List StepMade) (now : SiteState) : Type 0 where
  pub draws : List StepDraws
  pub steps_are : map (λ (d : StepDraws). d.step) draws ≡ steps
  pub drew : All DrewInStep draws
  pub connection : Shepherd ActionCall
  pub is_of : IsOf steps (seat_at now.seats.seats n) connection
  pub serves : SeatServes now.sessions.key now.boot now.since now.sessions.moment (course_of opened fed draws) connection
  pub follows : ItemsFollow (course_of opened fed draws)

-- a line neither starts the next boot nor opens a connection of this number
abbrev pub StaysWith : ℕ → Turn → Type 0
StaysWith n turn = (line_of turn.line ≢ Some lines.Reopen) × (line_of turn.line ≢ Some (lines.Seat (seats.Conn n)))

-- these turns were done, but that the last may be under way, and left this boot
abbrev pub LeaveBoot : List Turn → RunningState → Type 0
LeaveBoot turns r =
    (end_from first 1 turns ≡ Ended (Running r)) ⊎ (end_from first 1 turns ≡ UnderWay (Running r) (length turns))

-- A connection of a scenario, up to some turn: it opened by a line, in this boot; more turns followed in the same boot,
-- without another connection of its number, and left the boot so.
pub record Connection (turns : List Turn) : Type 0 where
  pub number : ℕ
  pub before : List Turn
  pub opening : Turn
  pub more : List Turn
  pub rest : List Turn
  pub turns_are : turns ≡ before ++ opening ∷ (more ++ rest)
  pub opens : line_of opening.line ≡ Some (lines.Seat (seats.Conn number))
  pub opened : RunningState
  pub done : end_from first 1 (before ++ opening ∷ []) ≡ Ended (Running opened)
  pub stays : All (StaysWith number) more
  pub last : RunningState
  pub leaves : LeaveBoot (before ++ opening ∷ more) last

-- the bytes that came to a connection since it opened
abbrev pub bytes_fed : {turns : List Turn} → Connection turns → List ℕ
bytes_fed c = bytes_in c.number c.more

-- the steps that it made since then
abbrev pub its_steps : {turns : List Turn} → Connection turns → List StepMade
its_steps c = steps_of c.number (made_from (Running c.opened) c.more)

-- A connection has served its requests, from the line on by which it opened.
abbrev pub IsServed : {turns : List Turn} → Connection turns → Type 0
IsServed c = HasServed c.number (site_of c.opened) (bytes_fed c) (its_steps c) (site_of c.last)

-- Each connection of a scenario has served its requests, up to each turn.
abbrev pub AllServed : List Turn → Type 0
AllServed turns = (c : Connection turns) → IsServed c
