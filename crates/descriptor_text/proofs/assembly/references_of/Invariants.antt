use Rattle.std.proofs.Common.{◌≡◌, ◌++◌, drop}
use Rattle.descriptor_text.specs.Assembly.{references_from, references_of}
use Rattle.descriptor_text.proofs.assembly.references_of.Given as goal

abbrev pub invariant-loop-place : goal.invariant-loop-place
invariant-loop-place l =
    l.references ++ references_from l.descriptions l.place (drop l.place l.descriptions)
    ≡ references_of l.descriptions
