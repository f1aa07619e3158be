-- The words of a command.
use Rattle.std.specs.Prelude.{ℕ, ◌≤◌, nat_le, if◌then◌else◌, List, [], ◌∷◌, Option, Some, None, option_and_then, option_map, codes}
use Rattle.std.specs.Str.{bytes_eq}
use Rattle.scenario_text.specs.Fields.{decimal_number}
use Rattle.workload.specs.declared.choices.TheConstants.{MAX_TURNS}
use Rattle.drive_engine.specs.declared.words.Command.{Command}
use Rattle.drive_engine.specs.declared.words.Command.TheVariants.{Drive, Groups, Workload}

-- the command of one word, if it is one
abbrev pub command_named : List ℕ → Option Command
command_named word =
    if bytes_eq word (codes "drive") then Some Drive else (
    if bytes_eq word (codes "groups") then Some Groups else None)

-- how many turns a word says, if these are not too many
abbrev pub turn_count : List ℕ → Option ℕ
turn_count word =
    option_and_then (λ n. if nat_le n MAX_TURNS then Some n else None) (decimal_number word)

-- the workload of two words: a number, and how many turns
abbrev pub workload_of : List ℕ → List ℕ → Option Command
workload_of number count =
    option_and_then (λ n. option_map (λ c. Workload n c) (turn_count count)) (decimal_number number)

-- the workload of the words behind the first, which are two
abbrev pub workload_behind : List (List ℕ) → Option Command
workload_behind [] = None
workload_behind (number ∷ []) = None
workload_behind (number ∷ count ∷ []) = workload_of number count
workload_behind (number ∷ count ∷ more ∷ words) = None

-- the command of a word with others behind it: a workload
abbrev pub longer_command : List ℕ → List (List ℕ) → Option Command
longer_command word words =
    if bytes_eq word (codes "workload") then workload_behind words else None

-- The command that words spell: one word, `drive` or `groups`; or `workload`, a number and how many turns.
abbrev pub command_of : List (List ℕ) → Option Command
command_of [] = None
command_of (word ∷ []) = command_named word
command_of (word ∷ more ∷ words) = longer_command word (more ∷ words)

-- A command that is a workload has no more turns than one may have.
abbrev pub HasFewTurns : Command → Type 0
HasFewTurns Drive = Unit {0}
HasFewTurns Groups = Unit {0}
HasFewTurns (Workload number count) = count ≤ MAX_TURNS
