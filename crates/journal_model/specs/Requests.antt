-- Which entry is the commit of a request.
use Rattle.std.specs.Prelude.{ℕ, ◌==◌, ◌&&◌, Bool, false, List, Option, position, option_map}
use Rattle.crash_base.specs.declared.numbers.Place.{Place}
use Rattle.crash_base.specs.declared.numbers.RequestNo.{RequestNo}
use Rattle.journal_model.specs.declared.entry.Entry.{Entry}
use Rattle.journal_model.specs.declared.entry.Entry.TheVariants.{Commit, Down, Up}

-- whether two requests are one
abbrev pub same_request : RequestNo → RequestNo → Bool
same_request a b = (a.boot == b.boot) && (a.serial == b.serial)

-- whether an entry is a commit of this request
abbrev pub is_commit_of : RequestNo → Entry → Bool
is_commit_of r (Commit e) = same_request e.request r
is_commit_of r (Down s) = false
is_commit_of r (Up s) = false

-- the place of a number
abbrev pub place_no : ℕ → Place
place_no n = record { 0 = n }

-- the place of the first commit of this request, if there is one
abbrev pub commit_of : List Entry → RequestNo → Option Place
commit_of es r = option_map place_no (position (is_commit_of r) es)
