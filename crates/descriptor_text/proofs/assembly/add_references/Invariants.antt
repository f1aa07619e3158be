use Rattle.std.proofs.Common.{◌≡◌, ◌++◌, map, drop}
use Rattle.descriptor_text.specs.Assembly.{reference_to}
use Rattle.descriptor_text.proofs.assembly.add_references.Given as goal

abbrev pub invariant-loop-name : goal.invariant-loop-name
invariant-loop-name l = l.references ++ map (reference_to l.descriptions l.from l.hard) (drop l.name-index l.names) ≡ l.initial.references ++ map (reference_to l.descriptions l.from l.hard) l.names
