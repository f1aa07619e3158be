use Rattle.std.proofs.Common.{◌≡◌, map}
use Rattle.descriptor_text.specs.Assembly.{component_part}
use Rattle.descriptor_text.proofs.assembly.components_of.Given as goal

abbrev pub invariant-loop-d : goal.invariant-loop-d
invariant-loop-d l = l.components ≡ map component_part l.yielded
