-- Tables that a component may own.
use Rattle.std.proofs.Common.{◌≡◌, ℕ, ◌<◌, Some, arith}
use Rattle.std.proofs.lemmas.Bool.Decides.{nat_tests}
use Rattle.line_steps.specs.Tables.{table_of}

-- none is the service's own
pub table_of-positive : (number table : ℕ) → Some table ≡ table_of number → 0 < table
table_of-positive number table is = grind (arith, nat_tests)
