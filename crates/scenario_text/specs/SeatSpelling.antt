-- What spells a line about connections, in the words of the scenario's grammar.
use Rattle.std.specs.Prelude.{ℕ, List, [], ◌∷◌, codes}
use Rattle.scenario_text.specs.declared.seat_line.SeatLine.{SeatLine}
use Rattle.scenario_text.specs.declared.seat_line.SeatLine.TheVariants.{Conn, Bytes, End, Step, Run}
use Rattle.scenario_text.specs.Texts.{hex_text}
use Rattle.scenario_text.specs.FieldSpelling.{IsSeat, AreBytes, seat_word}

-- the numbers and bytes of a line about connections are in their ranges
abbrev pub IsSeatInRange : SeatLine → Type 0
IsSeatInRange (Conn seat) = IsSeat seat
IsSeatInRange (Bytes seat bytes) = IsSeat seat × AreBytes bytes
IsSeatInRange (End seat) = IsSeat seat
IsSeatInRange (Step seat) = IsSeat seat
IsSeatInRange (Run seat) = IsSeat seat

-- the words of a line about connections
abbrev pub words_of_seat_line : SeatLine → List (List ℕ)
words_of_seat_line (Conn seat) = codes "conn" ∷ seat_word seat ∷ []
words_of_seat_line (Bytes seat bytes) = codes "bytes" ∷ seat_word seat ∷ hex_text bytes ∷ []
words_of_seat_line (End seat) = codes "end" ∷ seat_word seat ∷ []
words_of_seat_line (Step seat) = codes "step" ∷ seat_word seat ∷ []
words_of_seat_line (Run seat) = codes "run" ∷ seat_word seat ∷ []
