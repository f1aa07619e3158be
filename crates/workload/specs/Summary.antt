-- What the workload writes at its end.
use Rattle.std.specs.Prelude.{ℕ, ◌==◌, not, Bool, true, false, List, ◌++◌, length, codes}
use Rattle.std.specs.Fmt.{decimal}
use Rattle.std.specs.List.{count_by}
use Rattle.sha2.specs.Sha256.{sha256}
use Rattle.crash_base.specs.declared.row_id.TheConstants.{SERVICE_TABLE}
use Rattle.crash_base.specs.declared.rows.RowWrite.{RowWrite}
use Rattle.journal_model.specs.declared.entry.Entry.{Entry}
use Rattle.journal_model.specs.declared.entry.Entry.TheVariants.{Commit, Down, Up}
use Rattle.journal_model.specs.Rows.{rows_after}
use Rattle.boot_core.specs.Boot.{BootValue}
use Rattle.line_steps.specs.Texts.{table_text}
use Rattle.scenario_text.specs.Texts.{hex_text}
use Rattle.workload.specs.Turns.{Work}
use Rattle.workload.specs.declared.tally.Tally.{Tally}

-- the current rows of a boot, in order of id
abbrev pub rows_now : BootValue → List RowWrite
rows_now b = rows_after b.start.base b.entries

-- whether a row is not of the service's own table
abbrev pub is_outside : RowWrite → Bool
is_outside row = not (row.id.table == SERVICE_TABLE)

-- how many of these rows are not of the service's own table
abbrev pub row_count : List RowWrite → ℕ
row_count rows = count_by is_outside rows

-- the lines that say how many calls committed, and how many were revoked
unfoldable pub call_lines : Tally → List ℕ
call_lines tally =
    codes "commits " ++ decimal tally.commits ++ codes "\nrevoked " ++ decimal tally.revoked
    ++ codes "\n"

-- the lines that say how many calls met a conflict, and how many were refused for another cause
unfoldable pub refusal_lines : Tally → List ℕ
refusal_lines tally =
    codes "conflicts " ++ decimal tally.conflicts ++ codes "\nrefused " ++ decimal tally.refused
    ++ codes "\n"

-- the lines that say how many entries the journal has, and how many rows there are
unfoldable pub row_lines : ℕ → ℕ → List ℕ
row_lines entries rows =
    codes "journal " ++ decimal entries ++ codes "\nrows " ++ decimal rows ++ codes "\n"

-- the line of the digest of bytes
unfoldable pub digest_line : List ℕ → List ℕ
digest_line bytes = codes "digest " ++ hex_text (sha256 bytes) ++ codes "\n"

-- the lines of a tally, of how many entries and rows there are, and of what the rows write
unfoldable pub lines_of : Tally → ℕ → ℕ → List ℕ → List ℕ
lines_of tally entries rows table =
    call_lines tally ++ (refusal_lines tally ++ (row_lines entries rows ++ digest_line table))

-- the summary of a tally and a boot; its digest is that of the lines of the rows
abbrev pub summary_of : Tally → BootValue → List ℕ
summary_of tally b =
    lines_of tally (length b.entries) (row_count (rows_now b)) (table_text (rows_now b))

-- the summary of the workload
abbrev pub summary : Work → List ℕ
summary w = summary_of w.tally w.boot

-- whether an entry is a commit
abbrev pub is_commit : Entry → Bool
is_commit (Commit call) = true
is_commit (Down s) = false
is_commit (Up s) = false

-- how many commits a journal has
abbrev pub commit_count : List Entry → ℕ
commit_count es = count_by is_commit es

-- the line that says how many calls committed
abbrev pub commits_line : ℕ → List ℕ
commits_line n = codes "commits " ++ decimal n ++ codes "\n"
