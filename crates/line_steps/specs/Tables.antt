-- Tables, as lines number them.
use Rattle.std.specs.Prelude.{ℕ, ◌&&◌, nat_le, if◌then◌else◌, Option, Some, None}
use Rattle.line_steps.specs.declared.tables.TheConstants.{LAST_TABLE}

-- the table of a number, where a component may own it
abbrev pub table_of : ℕ → Option ℕ
table_of number = if nat_le 1 number && nat_le number LAST_TABLE then Some number else None
