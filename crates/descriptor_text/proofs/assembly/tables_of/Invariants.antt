use Rattle.std.proofs.Common.{◌≡◌, ◌++◌, drop}
use Rattle.descriptor_text.specs.Assembly.{tables_from, tables_of}
use Rattle.descriptor_text.proofs.assembly.tables_of.Given as goal

abbrev pub invariant-loop-place : goal.invariant-loop-place
invariant-loop-place l =
    l.tables ++ tables_from l.place (drop l.place l.descriptions) ≡ tables_of l.descriptions
