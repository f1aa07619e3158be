-- Why a server ended that was started.
use Rattle.std.specs.Prelude.{ℕ, List, codes}

-- which rows may be loaded
abbrev pub row_rule : List ℕ
row_rule = codes "a row has at most 4096 bytes, and table 0 has one row alone, the number of the last boot in 4 bytes"

-- why there is no further boot
abbrev pub spent_rule : List ℕ
spent_rule = codes "the number of its last boot is the greatest, 4294967295"
