-- What connections hold is given back before the next boot.
use Rattle.std.specs.Prelude.{List, [], ◌∷◌, ◌++◌, Option, Some, None}
use Rattle.std.specs.Option.{option_map}
use Rattle.outcome_items.specs.declared.item.Item.{Item}
use Rattle.seat_steps.specs.Gone.{item_left, seat_gone}
use Rattle.seat_steps.specs.declared.seat.Seat.{Seat}
use Rattle.session_lanes.specs.Lanes.{LanesState}
use Rattle.session_steps.specs.Sessions.{SessionsState}
use Rattle.seat_lines.specs.Site.{SeatsState}

-- the bricks after these connections gave back what they hold, in the order of their numbers
abbrev pub given_back : List (Option Seat) → LanesState → LanesState
given_back [] st = st
given_back (None ∷ seats) st = given_back seats st
given_back (Some seat ∷ seats) st = given_back seats (seat_gone seat st).store

-- the sessions after these connections gave back what they hold
abbrev pub sessions_given_back : List (Option Seat) → SessionsState → SessionsState
sessions_given_back seats s = record s { store = option_map (given_back seats) s.store }

-- an item, if there is one
abbrev pub items_if : Option Item → List Item
items_if None = []
items_if (Some item) = item ∷ []

-- The items that these connections give where they give back what they hold, in the order of their numbers: each of a
-- request whose response has left.
abbrev pub items_at_giving_up : List (Option Seat) → LanesState → List Item
items_at_giving_up [] st = []
items_at_giving_up (None ∷ seats) st = items_at_giving_up seats st
items_at_giving_up (Some seat ∷ seats) st =
    items_if (seat_gone seat st).item ++ items_at_giving_up seats (seat_gone seat st).store

-- the item that is left of a connection, if it is there and one is left
abbrev pub left_by : Option Seat → List Item
left_by None = []
left_by (Some seat) = items_if (item_left seat.connection.stage)

-- The connections are gone; the random words go on, and the manager stays.
abbrev pub without_seats : SeatsState → SeatsState
without_seats s = record s { seats = [] }
