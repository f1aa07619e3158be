-- What lines write.
use Rattle.std.specs.Prelude.{ℕ, ◌+◌, ◌==◌, if◌then◌else◌, List, [], ◌∷◌, ◌++◌, length, Option, Some, None, codes}
use Rattle.std.specs.Fmt.{decimal}
use Rattle.std.specs.List.{flat_map}
use Rattle.crash_base.specs.declared.row_id.TheConstants.{SERVICE_TABLE}
use Rattle.crash_base.specs.declared.rows.RowWrite.{RowWrite}
use Rattle.commit_journal.specs.Lines.{entry_line}
use Rattle.journal_model.specs.declared.conflict.Conflict.{Conflict}
use Rattle.journal_model.specs.declared.entry.Entry.{Entry}
use Rattle.journal_model.specs.declared.entry.ReadMark.{ReadMark}
use Rattle.journal_model.specs.declared.entry.ReadMark.TheVariants.{Row, Table}
use Rattle.journal_model.specs.declared.stale.Stale.{Stale}
use Rattle.scenario_text.specs.Texts.{hex_text}
use Rattle.boot_core.specs.declared.refusals.CallRefusal.{CallRefusal}
use Rattle.boot_core.specs.declared.refusals.CallRefusal.TheVariants as refusals
use Rattle.boot_core.specs.declared.refusals.CommitRefusal.{CommitRefusal}
use Rattle.boot_core.specs.declared.refusals.CommitRefusal.TheVariants as commits
use Rattle.boot_core.specs.declared.refusals.RebootRefusal.{RebootRefusal}
use Rattle.boot_core.specs.declared.refusals.RebootRefusal.TheVariants as reboots

-- what a container writes that was started
abbrev pub boot_text : ℕ → List ℕ
boot_text number = codes "boot " ++ decimal number ++ codes "\n"

-- what a commit writes
abbrev pub committed_text : ℕ → ℕ → List ℕ
committed_text caller place =
    codes "c" ++ decimal caller ++ codes " committed " ++ decimal place ++ codes "\n"

-- what a call writes that is stale
abbrev pub revoked_text : ℕ → Stale → List ℕ
revoked_text caller stale =
    codes "c" ++ decimal caller ++ codes " revoked group " ++ decimal stale.group.0
    ++ codes " had " ++ decimal stale.had ++ codes " now " ++ decimal stale.now ++ codes "\n"

-- what a call writes that enters a group which is down
abbrev pub sentinel_text : ℕ → ℕ → ℕ → List ℕ
sentinel_text caller group down =
    codes "c" ++ decimal caller ++ codes " sentinel group " ++ decimal group
    ++ codes " down " ++ decimal down ++ codes "\n"

-- what a call writes that enters a component which fails, by the plan of this number
abbrev pub raised_text : ℕ → ℕ → ℕ → List ℕ
raised_text caller component fault =
    codes "c" ++ decimal caller ++ codes " raised " ++ decimal component
    ++ codes " fault " ++ decimal fault ++ codes "\n"

-- what a call writes that enters a component which does not come back, by the plan of this number
abbrev pub hung_text : ℕ → ℕ → ℕ → List ℕ
hung_text caller component fault =
    codes "c" ++ decimal caller ++ codes " hung " ++ decimal component
    ++ codes " fault " ++ decimal fault ++ codes "\n"

-- what a refused step of a call writes; where memory ran out the run ends instead
abbrev pub refusal_text : ℕ → CallRefusal → List ℕ
refusal_text caller (refusals.Revoked stale) = revoked_text caller stale
refusal_text caller refusals.Depth = codes "c" ++ decimal caller ++ codes " depth\n"
refusal_text caller refusals.Steps = codes "c" ++ decimal caller ++ codes " steps\n"
refusal_text caller refusals.Reads = codes "c" ++ decimal caller ++ codes " reads\n"
refusal_text caller refusals.Writes = codes "c" ++ decimal caller ++ codes " writes\n"
refusal_text caller (refusals.Sentinel group down) =
    sentinel_text caller group.0 down.0
refusal_text caller (refusals.Hung component fault) = hung_text caller component.0 fault
refusal_text caller (refusals.Raised component fault) = raised_text caller component.0 fault
refusal_text caller refusals.OutOfMemory = []

-- what a read writes: the bytes of the row, or that there is none
abbrev pub row_answer_text : ℕ → Option (List ℕ) → List ℕ
row_answer_text caller None = codes "c" ++ decimal caller ++ codes " row none\n"
row_answer_text caller (Some bytes) =
    codes "c" ++ decimal caller ++ codes " row " ++ hex_text bytes ++ codes "\n"

-- what a list writes of a row
abbrev pub listed_text : RowWrite → List ℕ
listed_text row = codes " " ++ decimal row.id.key ++ codes "=" ++ hex_text row.bytes

-- what a list writes: how many rows there are, and each of them in order
abbrev pub list_answer_text : ℕ → List RowWrite → List ℕ
list_answer_text caller rows =
    codes "c" ++ decimal caller ++ codes " list " ++ decimal (length rows)
    ++ flat_map listed_text rows ++ codes "\n"

-- what a commit writes whose request has committed
abbrev pub already_text : ℕ → ℕ → List ℕ
already_text caller place =
    codes "c" ++ decimal caller ++ codes " already " ++ decimal place ++ codes "\n"

-- a row, or a table
abbrev pub mark_text : ReadMark → List ℕ
mark_text (Table table) = codes "table " ++ decimal table
mark_text (Row id) = codes "row " ++ decimal id.table ++ codes " " ++ decimal id.key

-- what a commit writes where a row or a table was written since its call began
abbrev pub conflict_text : ℕ → Conflict → List ℕ
conflict_text caller conflict =
    codes "c" ++ decimal caller ++ codes " conflict " ++ mark_text conflict.mark
    ++ codes " at " ++ decimal conflict.at.0 ++ codes " newest " ++ decimal conflict.newest.0
    ++ codes "\n"

-- what a commit writes that finds the journal full
abbrev pub full_text : ℕ → ℕ → ℕ → List ℕ
full_text caller entries bytes =
    codes "c" ++ decimal caller ++ codes " full " ++ decimal entries
    ++ codes " " ++ decimal bytes ++ codes "\n"

-- what a commit writes whose keeper failed
abbrev pub keeper_failed_text : ℕ → List ℕ
keeper_failed_text caller = codes "c" ++ decimal caller ++ codes " keeper failed\n"

-- what a refused commit writes; where memory ran out the run ends instead
abbrev pub commit_refusal_text : ℕ → CommitRefusal → List ℕ
commit_refusal_text caller (commits.Already place) = already_text caller place.0
commit_refusal_text caller (commits.Revoked stale) = revoked_text caller stale
commit_refusal_text caller (commits.Conflict conflict) = conflict_text caller conflict
commit_refusal_text caller (commits.JournalFull full) =
    full_text caller full.entries full.bytes
commit_refusal_text caller commits.OutOfMemory = []
commit_refusal_text caller commits.KeeperFailed = keeper_failed_text caller

-- what a Down writes
abbrev pub down_text : ℕ → List ℕ
down_text place = codes "down " ++ decimal place ++ codes "\n"

-- what an Up writes
abbrev pub up_text : ℕ → List ℕ
up_text place = codes "up " ++ decimal place ++ codes "\n"

-- what a refused reboot writes; where memory ran out the run ends instead
abbrev pub reboot_refusal_text : RebootRefusal → List ℕ
reboot_refusal_text (reboots.Busy group down) =
    codes "busy group " ++ decimal group.0 ++ codes " down " ++ decimal down.0 ++ codes "\n"
reboot_refusal_text (reboots.JournalFull full) =
    codes "full " ++ decimal full.entries ++ codes " " ++ decimal full.bytes ++ codes "\n"
reboot_refusal_text reboots.OutOfMemory = []

-- the line of a row
abbrev pub row_text : RowWrite → List ℕ
row_text row =
    decimal row.id.table ++ codes " " ++ decimal row.id.key ++ codes " " ++ hex_text row.bytes
    ++ codes "\n"

-- the line of a row, and nothing for a row of the service's own table
abbrev pub shown : RowWrite → List ℕ
shown row = if row.id.table == SERVICE_TABLE then [] else row_text row

-- the lines of rows, as they come, without those of the service's own table
abbrev pub table_text : List RowWrite → List ℕ
table_text rows = flat_map shown rows

-- the lines of entries, the first of which is at this place
abbrev pub entries_text : ℕ → List Entry → List ℕ
entries_text place [] = []
entries_text place (e ∷ es) =
    (entry_line place e ++ codes "\n") ++ entries_text (place + 1) es

-- the lines of a journal
abbrev pub journal_text : List Entry → List ℕ
journal_text es = entries_text 0 es
