-- What the operator is told once all is open.
use Rattle.std.specs.Prelude.{◌≡◌, ◌⊎◌, ℕ, List, ◌++◌, codes}
use Rattle.std.specs.Fmt.{decimal}
use Rattle.service_log.specs.Logging.{Log, WritesLine}
use Rattle.serve_command.specs.Words.{ServeValue}

-- where a server is, and how many workers it has
abbrev pub place_text : ℕ → ℕ → List ℕ
place_text port workers =
    codes " on 127.0.0.1:" ++ (decimal port ++ (codes " by " ++ (decimal workers ++ codes " workers\n")))

-- the line of a server that has opened its file and its port
abbrev pub serving_line : List ℕ → ℕ → ℕ → List ℕ
serving_line file port workers = codes "serving " ++ (file ++ place_text port workers)

-- What is served was told, whole or in part; or nothing, where there was no memory for the line.
abbrev pub TellsServing : ServeValue → Log → Log → Type 0
TellsServing words old new =
    (new ≡ old) ⊎ WritesLine (serving_line words.file words.port words.workers) old new
