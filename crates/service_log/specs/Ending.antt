-- How a server of a site ends: its status, and the line that it reports.
use Rattle.std.specs.Prelude.{◌≡◌, ◌⊎◌, ℕ, List, [], ◌++◌, codes}
use Rattle.std.specs.Fmt.{decimal}
use Rattle.crash_base.specs.declared.row_id.RowId.{RowId}
use Rattle.service_log.specs.declared.ending.ServiceEnd.{ServiceEnd}
use Rattle.service_log.specs.declared.ending.ServiceEnd.TheVariants.{Closed, KeeperFailed, BadRow, BootsSpent, OutOfMemory}

-- the exit status
abbrev pub status_of : ServiceEnd → ℕ
status_of Closed = 0
status_of KeeperFailed = 6
status_of (BadRow id) = 7
status_of BootsSpent = 11
status_of OutOfMemory = 9

-- the line of a bad row: its table and its key
abbrev pub bad_row_line : RowId → List ℕ
bad_row_line id = codes "bad row " ++ decimal id.table ++ codes " " ++ decimal id.key ++ codes "\n"

-- what is reported
abbrev pub end_line : ServiceEnd → List ℕ
end_line Closed = []
end_line KeeperFailed = codes "keeper failed\n"
end_line (BadRow id) = bad_row_line id
end_line BootsSpent = codes "boots spent\n"
end_line OutOfMemory = codes "out of memory\n"

-- A server that ended so is told to have ended so; or that memory ran out, where there is none for the line of a bad
-- row.
abbrev pub IsToldAs : ServiceEnd → ServiceEnd → Type 0
IsToldAs end told = (told ≡ end) ⊎ ((id : RowId) × (end ≡ BadRow id) × (told ≡ OutOfMemory))
