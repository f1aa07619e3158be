-- Why a server was not started: its status, and what its operator is told.
use Rattle.std.specs.Prelude.{◌≡◌, ◌⊎◌, ℕ, List, [], ◌++◌, codes}
use Rattle.serve_command.specs.declared.ending.StartFault.{StartFault}
use Rattle.serve_command.specs.declared.ending.StartFault.TheVariants.{KeyRefused, StartFailed, OutOfMemory}

-- the exit status
abbrev pub status_of : StartFault → ℕ
status_of (KeyRefused reason) = 13
status_of (StartFailed reason) = 14
status_of OutOfMemory = 9

-- the line of the status
abbrev pub status_line : StartFault → List ℕ
status_line (KeyRefused reason) = codes "key refused\n"
status_line (StartFailed reason) = codes "start failed\n"
status_line OutOfMemory = codes "out of memory\n"

-- the line of the reason
abbrev pub reason_in : StartFault → List ℕ
reason_in (KeyRefused reason) = reason
reason_in (StartFailed reason) = reason
reason_in OutOfMemory = []

-- what is told: the reason, and then the line of the status
abbrev pub report_of : StartFault → List ℕ
report_of fault = reason_in fault ++ status_line fault

-- the line of a file or a port, and why it is of no use
abbrev pub line_about : List ℕ → List ℕ → List ℕ
line_about name why = name ++ codes ": " ++ why ++ codes "\n"

-- The reason is the line of this file or port and why it is of no use; or nothing, where there was no memory for it.
abbrev pub IsAbout : List ℕ → List ℕ → List ℕ → Type 0
IsAbout name why reason = (reason ≡ line_about name why) ⊎ (reason ≡ [])

-- Why a key is refused.
abbrev pub key_rule : List ℕ
key_rule = codes "a key has 16 to 1024 bytes"
