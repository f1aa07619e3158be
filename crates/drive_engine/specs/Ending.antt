-- How a command ends: its status, and what is reported.
use Rattle.std.specs.Prelude.{◌≡◌, ℕ, ◌⊎◌, List, [], ◌++◌, codes}
use Rattle.std.specs.Fmt.{decimal}
use Rattle.crash_base.specs.declared.row_id.RowId.{RowId}
use Rattle.drive_engine.specs.declared.ending.Ending.{Ending}
use Rattle.drive_engine.specs.declared.ending.Ending.TheVariants.{Done, UnknownCommand, LineRefused, ReadFailed, WriteFailed, KeeperFailed, BadRow, LineTooLong, OutOfMemory, DescriptorsRefused, BootsSpent, ScenarioTooLong}
use Rattle.drive_engine.specs.declared.words.TheConstants.{USAGE}

-- the exit status
abbrev pub status : Ending → ℕ
status Done = 0
status UnknownCommand = 2
status (LineRefused n) = 3
status ReadFailed = 4
status WriteFailed = 5
status KeeperFailed = 6
status (BadRow id) = 7
status (LineTooLong n) = 8
status OutOfMemory = 9
status DescriptorsRefused = 10
status BootsSpent = 11
status ScenarioTooLong = 12

-- what is reported of an ending without a number
abbrev pub fixed_report : Ending → List ℕ
fixed_report Done = []
fixed_report UnknownCommand = USAGE.now
fixed_report (LineRefused n) = []
fixed_report ReadFailed = codes "read failed\n"
fixed_report WriteFailed = codes "write failed\n"
fixed_report KeeperFailed = codes "keeper failed\n"
fixed_report (BadRow id) = []
fixed_report (LineTooLong n) = []
fixed_report OutOfMemory = codes "out of memory\n"
fixed_report DescriptorsRefused = codes "descriptors refused\n"
fixed_report BootsSpent = codes "boots spent\n"
fixed_report ScenarioTooLong = codes "input too long\n"

-- what is reported of a refused line
abbrev pub line_report : ℕ → List ℕ
line_report n = codes "line " ++ decimal n ++ codes "\n"

-- what is reported of a line that is too long
abbrev pub long_line_report : ℕ → List ℕ
long_line_report n = codes "line " ++ decimal n ++ codes " too long\n"

-- what is reported of a bad row: its table and its key
abbrev pub bad_row_report : RowId → List ℕ
bad_row_report id = codes "bad row " ++ decimal id.table ++ codes " " ++ decimal id.key ++ codes "\n"

-- what is reported
abbrev pub report : Ending → List ℕ
report Done = []
report UnknownCommand = fixed_report UnknownCommand
report (LineRefused n) = line_report n
report ReadFailed = fixed_report ReadFailed
report WriteFailed = fixed_report WriteFailed
report KeeperFailed = fixed_report KeeperFailed
report (BadRow id) = bad_row_report id
report (LineTooLong n) = long_line_report n
report OutOfMemory = fixed_report OutOfMemory
report DescriptorsRefused = fixed_report DescriptorsRefused
report BootsSpent = fixed_report BootsSpent
report ScenarioTooLong = fixed_report ScenarioTooLong

-- it is reported with numbers: that of a line, or those of a row
abbrev pub HasNumbers : Ending → Type 0
HasNumbers Done = ⊥
HasNumbers UnknownCommand = ⊥
HasNumbers (LineRefused n) = Unit {0}
HasNumbers ReadFailed = ⊥
HasNumbers WriteFailed = ⊥
HasNumbers KeeperFailed = ⊥
HasNumbers (BadRow id) = Unit {0}
HasNumbers (LineTooLong n) = Unit {0}
HasNumbers OutOfMemory = ⊥
HasNumbers DescriptorsRefused = ⊥
HasNumbers BootsSpent = ⊥
HasNumbers ScenarioTooLong = ⊥

-- The ending is as it was, or there was no memory for its numbers.
abbrev pub IsReported : Ending → Ending → Type 0
IsReported ending reported =
    (reported ≡ ending) ⊎ ((reported ≡ OutOfMemory) × HasNumbers ending)
