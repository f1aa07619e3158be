-- Connections that answer their requests, over lines.
use Rattle.std.specs.Prelude.{◌≡◌, ℕ, List, [], ◌∷◌, ◌++◌, Option, Some, None}
use Rattle.std.specs.List.{flat_map}
use Rattle.auction_calls.specs.declared.action.ActionCall.{ActionCall}
use Rattle.container_core.specs.declared.history.Event.{Event}
use Rattle.container_core.specs.declared.history.Event.TheVariants.{Started}
use Rattle.http_wire.specs.declared.taken.Head.{Head}
use Rattle.outcome_items.specs.declared.item.Item.{Item}
use Rattle.scenario_text.specs.declared.seat_line.SeatLine.{SeatLine}
use Rattle.scenario_text.specs.declared.seat_line.SeatLine.TheVariants as lines
use Rattle.seat_steps.specs.Answering.{SeatAnswers}
use Rattle.seat_steps.specs.declared.seat.Seat.{Seat}
use Rattle.shepherd.specs.Shepherds.{turn}
use Rattle.shepherd.specs.declared.shepherd.EndKind.{EndKind}
use Rattle.shepherd.specs.declared.shepherd.Shepherd.{Shepherd}
use Rattle.shepherd.specs.declared.shepherd.ShepherdTurn.TheVariants as turns
use Rattle.seat_lines.specs.Site.{SiteState}

-- the history of the container of a site: its start, and the events since
abbrev pub history_of : SiteState → List Event
history_of s = Started s.boot.start ∷ s.since

-- the bytes that come in by a line
abbrev pub bytes_by : SeatLine → List ℕ
bytes_by (lines.Conn n) = []
bytes_by (lines.Bytes n bytes) = bytes
bytes_by (lines.End n) = []
bytes_by (lines.Step n) = []
bytes_by (lines.Run n) = []

-- these, one after the other
abbrev pub in_row : List (List ℕ) → List ℕ
in_row outs = flat_map (λ (bytes : List ℕ). bytes) outs

-- A connection answers its requests, if it is there; one that is gone did so at its end.
abbrev pub PlaceAnswers : List ℕ → List Event → List ℕ → List Head → List ℕ → List Item → Option Seat → Type 0
PlaceAnswers key history fed heads written items (Some seat) = SeatAnswers key history fed heads written items seat.connection
PlaceAnswers key history fed heads written items None =
    (last : Shepherd ActionCall) × (end : EndKind) × (turn last ≡ turns.Ended end) × SeatAnswers key history fed heads written items last

-- A connection took some more requests, and answers so.
pub record AnswersMore (key : List ℕ) (history : List Event) (fed : List ℕ) (heads : List Head) (written : List ℕ) (items : List Item) (seat : Option Seat) : Type 0 where
  pub taken : List Head
  pub answers : PlaceAnswers key history fed (heads ++ taken) written items seat
