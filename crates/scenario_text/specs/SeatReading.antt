-- Which line about connections a text spells.
use Rattle.std.specs.Prelude.{ℕ, if◌then◌else◌, List, Option, None, codes}
use Rattle.std.specs.Option.{option_map}
use Rattle.std.specs.Str.{bytes_eq}
use Rattle.scenario_text.specs.declared.seat_line.SeatLine.{SeatLine}
use Rattle.scenario_text.specs.declared.seat_line.SeatLine.TheVariants.{Conn, Bytes, End, Step, Run}
use Rattle.scenario_text.specs.Arguments.{one_seat, seat_and_bytes}

-- the line about connections that a first word and the further words spell
abbrev pub seat_line : List ℕ → List (List ℕ) → Option SeatLine
seat_line first words =
    if bytes_eq first (codes "conn") then option_map (λ s. Conn s) (one_seat words) else (
    if bytes_eq first (codes "bytes") then option_map (λ p. Bytes p.0 p.1) (seat_and_bytes words) else (
    if bytes_eq first (codes "end") then option_map (λ s. End s) (one_seat words) else (
    if bytes_eq first (codes "step") then option_map (λ s. Step s) (one_seat words) else (
    if bytes_eq first (codes "run") then option_map (λ s. Run s) (one_seat words) else None))))
