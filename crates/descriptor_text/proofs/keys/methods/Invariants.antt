use Rattle.std.proofs.Common.{◌≡◌, drop}
use Rattle.toml.specs.View.{items_view}
use Rattle.descriptor_text.specs.Keys.{method_of}
use Rattle.descriptor_text.specs.Keys.{gathered}
use Rattle.descriptor_text.proofs.Gathering.{gathered_after}
use Rattle.descriptor_text.proofs.keys.methods.Given as goal

abbrev pub invariant-loop-value : goal.invariant-loop-value
invariant-loop-value l = gathered_after method_of l.methods (items_view (drop l.value-index l.values)) ≡ gathered method_of (items_view l.values)
