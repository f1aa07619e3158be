use Rattle.std.proofs.Common.{◌≡◌, ◌++◌, map, drop}
use Rattle.descriptor_text.specs.Assembly.{table_part}
use Rattle.descriptor_text.proofs.assembly.add_tables.Given as goal

abbrev pub invariant-loop-number : goal.invariant-loop-number
invariant-loop-number l = l.tables ++ map (table_part l.owner) (drop l.number-index l.numbers) ≡ l.initial.tables ++ map (table_part l.owner) l.numbers
