-- Lines about connections: what words read as, they spell, and what spells one, is read as it.
use Rattle.std.proofs.Common.{◌≡◌, ℕ, List, ◌∷◌, Option, Some, codes, refl}
use Rattle.std.specs.Option.{option_map}
use Rattle.scenario_text.specs.declared.seat_line.SeatLine.{SeatLine}
use Rattle.scenario_text.specs.declared.seat_line.SeatLine.TheVariants as lines
use Rattle.scenario_text.specs.declared.line.Line.{Line}
use Rattle.scenario_text.specs.declared.line.Line.TheVariants.{Seat}
use Rattle.scenario_text.specs.SeatReading.{seat_line}
use Rattle.scenario_text.specs.SeatSpelling.{IsSeatInRange, words_of_seat_line}
use Rattle.scenario_text.proofs.WordKinds.{seats, bytes}
use Rattle.scenario_text.proofs.LineForms.{Grammar, AreWords, one_form, two_form}
use Rattle.scenario_text.proofs.LineReads.{IsRead, one_read, two_read}

abbrev pub seat_lines : Grammar SeatLine
seat_lines = record { IsIn = IsSeatInRange; words = words_of_seat_line }

-- what words read as, they spell
pub seat_spelled : (first : List ℕ) (words : List (List ℕ)) (line : SeatLine) → seat_line first words ≡ Some line → AreWords seat_lines (first ∷ words) line
seat_spelled first words line h =
    one_form seat_lines seats (codes "conn") (λ s. lines.Conn s) (λ _ r. (r, refl)) first words line _ (
    two_form seat_lines seats bytes (codes "bytes") (λ p. lines.Bytes p.0 p.1) (λ _ r. (r, refl)) first words line _ (
    one_form seat_lines seats (codes "end") (λ s. lines.End s) (λ _ r. (r, refl)) first words line _ (
    one_form seat_lines seats (codes "step") (λ s. lines.Step s) (λ _ r. (r, refl)) first words line _ (
    one_form seat_lines seats (codes "run") (λ s. lines.Run s) (λ _ r. (r, refl)) first words line _ (
    λ k. cc))))) h

-- what is read, as a line
abbrev as_line : {A : Type 0} → (A → SeatLine) → Option A → Option Line
as_line mk o = option_map (λ s. Seat s) (option_map mk o)

-- a line about connections is read from its spelling
pub seat_read : (line : SeatLine) → IsSeatInRange line → IsRead (Seat line)
seat_read (lines.Conn seat) h = one_read seats (Seat (lines.Conn seat)) (codes "conn") seat h (as_line (λ s. lines.Conn s)) refl refl refl refl refl
seat_read (lines.Bytes seat row) (h, k) = two_read seats bytes (Seat (lines.Bytes seat row)) (codes "bytes") seat row h k (as_line (λ p. lines.Bytes p.0 p.1)) refl refl refl refl refl
seat_read (lines.End seat) h = one_read seats (Seat (lines.End seat)) (codes "end") seat h (as_line (λ s. lines.End s)) refl refl refl refl refl
seat_read (lines.Step seat) h = one_read seats (Seat (lines.Step seat)) (codes "step") seat h (as_line (λ s. lines.Step s)) refl refl refl refl refl
seat_read (lines.Run seat) h = one_read seats (Seat (lines.Run seat)) (codes "run") seat h (as_line (λ s. lines.Run s)) refl refl refl refl refl
