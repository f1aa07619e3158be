-- How far a scenario has come, and what a line and a piece of it do.
use Rattle.std.specs.Prelude.{◌≡◌, ℕ, ◌+◌, ◌<◌, ◌≤◌, List, [], ◌++◌, length, All, Option}
use Rattle.scenario_engine.specs.declared.failure.UnstartedCause.TheVariants as causes
use Rattle.outside.specs.Sink.{appended, AppendsPrefix}
use Rattle.outside.specs.Source.{prepended}
use Rattle.scenario_text.specs.Cutting.{text_of_lines, IsOneLine}
use Rattle.scenario_text.specs.Reading.{line_of}
use Rattle.scenario_text.specs.declared.line.TheConstants.{MAX_LINE_BYTES}
use Rattle.scenario_engine.specs.declared.failure.LineFailure.TheVariants as failures
use Rattle.scenario_engine.specs.KeeperCalls.{KeeperSeen}
use Rattle.scenario_engine.specs.State.{State, RefusedIn, DoneTo}
use Rattle.scenario_engine.specs.Telling.{Does, Ends}
use Rattle.scenario_engine.specs.Transcript.{Turn, lines_in, first, Ended, end_from, transcript}
use Rattle.drive_engine.specs.declared.drive.TheConstants.{MAX_SCENARIO_BYTES}
use Rattle.drive_engine.specs.declared.ending.Ending.{Ending}
use Rattle.drive_engine.specs.declared.ending.Ending.TheVariants as endings
use Rattle.drive_engine.specs.declared.words.Command.TheVariants.{Drive}
use Rattle.drive_engine.specs.Command.{Runs}
use Rattle.drive_engine.specs.Drive.{WereAskedWhole}
use Rattle.drive_engine.specs.Exchange.{Exchange, exchange, IsWritten}

-- the state that the lines before a line leave, what is seen of the keeper then, the part of that line that was read,
-- and its number
pub record PlayState : Type 0 where
  pub state : State
  pub keeper : KeeperSeen
  pub part : List ℕ
  pub number : ℕ

-- a scenario before its first line
abbrev pub first_play : KeeperSeen → PlayState
first_play keeper = record { state = first; keeper = keeper; part = []; number = 1 }

-- One line was done, which leaves this state, and what it writes was written.
pub record DoesLine (s t : State) (line : List ℕ) (old new : Option (List ℕ)) (before after : KeeperSeen) : Type 0 where
  pub text : List ℕ
  pub short : length line ≤ MAX_LINE_BYTES
  pub done : Does s (line_of line) (DoneTo t text) before after
  pub written : new ≡ appended old text

-- A line is not too long, and nothing was written.
abbrev pub WritesNoText : List ℕ → Option (List ℕ) → Option (List ℕ) → Type 0
WritesNoText line old new = (length line ≤ MAX_LINE_BYTES) × (new ≡ old)

-- A scenario ends so at the line of this number.
abbrev pub EndsAtLine : Ending → ℕ → State → List ℕ → Option (List ℕ) → Option (List ℕ)
    → KeeperSeen → KeeperSeen → Type 0
EndsAtLine endings.Done number s line old new before after = ⊥
EndsAtLine endings.UnknownCommand number s line old new before after = ⊥
EndsAtLine (endings.LineRefused n) number s line old new before after =
    (n ≡ number) × WritesNoText line old new
    × ((t : State) × Does s (line_of line) (RefusedIn t) before after)
EndsAtLine endings.ReadFailed number s line old new before after = ⊥
EndsAtLine endings.WriteFailed number s line old new before after =
    (t : State) × (text : List ℕ) × (length line ≤ MAX_LINE_BYTES)
    × Does s (line_of line) (DoneTo t text) before after × AppendsPrefix old new text
EndsAtLine endings.KeeperFailed number s line old new before after =
    WritesNoText line old new × Ends (failures.Unstarted causes.KeeperFailed) s (line_of line) before after
EndsAtLine (endings.BadRow id) number s line old new before after =
    WritesNoText line old new × Ends (failures.Unstarted (causes.BadRow id)) s (line_of line) before after
EndsAtLine (endings.LineTooLong n) number s line old new before after =
    (n ≡ number) × (MAX_LINE_BYTES < length line) × (new ≡ old) × (after ≡ before)
EndsAtLine endings.OutOfMemory number s line old new before after =
    WritesNoText line old new × Ends failures.OutOfMemory s (line_of line) before after
EndsAtLine endings.DescriptorsRefused number s line old new before after = ⊥
EndsAtLine endings.BootsSpent number s line old new before after =
    WritesNoText line old new × Ends (failures.Unstarted causes.BootsSpent) s (line_of line) before after
EndsAtLine endings.ScenarioTooLong number s line old new before after = ⊥

-- A scenario has come so far: of what was taken from the input, first come the lines of turns, which were done; then a
-- part of a line, which is kept; and then bytes that were not looked at, of which the last are past the limit of a
-- scenario.
pub record HasCome (x : Exchange) (more : ℕ) (unread past : List ℕ) (p : PlayState) : Type 0 where
  pub turns : List Turn
  pub taken : x.left_before
      ≡ prepended (text_of_lines (lines_in turns) ++ (p.part ++ (unread ++ past))) x.left_after
  pub plain : All IsOneLine (lines_in turns)
  pub one : IsOneLine p.part
  pub short : length p.part ≤ MAX_LINE_BYTES
  pub within : length (text_of_lines (lines_in turns) ++ (p.part ++ unread)) + more
      ≡ MAX_SCENARIO_BYTES
  pub number : p.number ≡ length turns + 1
  pub done : end_from first 1 turns ≡ Ended p.state
  pub written : IsWritten x (transcript first turns)
  pub asked : WereAskedWhole turns x.keeper_before x.keeper_after

-- However a scenario has come to the first place, it has now come to the second.
abbrev pub Comes : PlayState → List ℕ → Option (List ℕ) → KeeperSeen
    → PlayState → List ℕ → Option (List ℕ) → KeeperSeen → Type 0
Comes p unread old before q rest new after =
    (left left_now written : Option (List ℕ)) (held : KeeperSeen) (more : ℕ) (past : List ℕ)
    → HasCome (exchange left left_now written old held before) more unread past p
    → HasCome (exchange left left_now written new held after) more rest past q

-- However a scenario has come to this place, it has now ended so.
abbrev pub EndsFrom : PlayState → List ℕ → Option (List ℕ) → KeeperSeen
    → Ending → Option (List ℕ) → KeeperSeen → Type 0
EndsFrom p unread old before ending new after =
    (left left_now written : Option (List ℕ)) (held : KeeperSeen) (more : ℕ) (past : List ℕ)
    → HasCome (exchange left left_now written old held before) more unread past p
    → Runs Drive ending (exchange left left_now written new held after)
