-- The sink that keeps the line of an end.
use Rattle.std.specs.Prelude.{ℕ, ◌||◌, ◌&&◌, nat_le, Bool, if◌then◌else◌, List, [], ◌++◌, length, take, Option, codes}
use Rattle.std.specs.Str.{bytes_eq}

-- What is seen of the sink: what it handed on, as far as the sink below tells, what is kept, and how often the sink
-- below has failed.
pub record LastLineValue : Type 0 where
  pub handed : Option (List ℕ)
  pub kept : List ℕ
  pub faults : ℕ

-- whether a line is that of a bad row
abbrev pub is_bad_row : List ℕ → Bool
is_bad_row line = nat_le 8 (length line) && bytes_eq (take 8 line) (codes "bad row ")

-- whether a line is one of those with which a server ends
abbrev pub is_last_line : List ℕ → Bool
is_last_line line =
    bytes_eq line (codes "keeper failed\n") || (bytes_eq line (codes "boots spent\n")
    || (bytes_eq line (codes "out of memory\n") || is_bad_row line))

-- what is written at the end: what was kept, and before it the reason, if it is the line of an end
abbrev pub ending : List ℕ → List ℕ → List ℕ
ending reason kept = (if is_last_line kept then reason else []) ++ kept
