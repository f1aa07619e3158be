-- What the words of the program ask for.
use Rattle.std.specs.Prelude.{ℕ, if◌then◌else◌, List, [], ◌∷◌, codes}
use Rattle.std.specs.Str.{bytes_eq}
use Rattle.crash_program.specs.declared.words.Invocation.{Invocation}
use Rattle.crash_program.specs.declared.words.Invocation.TheVariants.{Help, Version, Command}

-- What one word asks for: the help, the version, or a command.
abbrev pub invocation_named : List ℕ → Invocation
invocation_named word =
    if bytes_eq word (codes "--help") then Help
    else (if bytes_eq word (codes "--version") then Version
    else Command)

-- What words ask for: help and version are one word each, and all else is a command.
abbrev pub invocation_of : List (List ℕ) → Invocation
invocation_of [] = Command
invocation_of (word ∷ []) = invocation_named word
invocation_of (word ∷ more ∷ words) = Command
