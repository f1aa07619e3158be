use Rattle.std.proofs.Common.{◌≡◌, drop}
use Rattle.toml.specs.View.{items_view}
use Rattle.descriptor_text.specs.Keys.{table_number}
use Rattle.descriptor_text.specs.Keys.{gathered}
use Rattle.descriptor_text.proofs.Gathering.{gathered_after}
use Rattle.descriptor_text.proofs.keys.numbers.Given as goal

abbrev pub invariant-loop-value : goal.invariant-loop-value
invariant-loop-value l = gathered_after table_number l.numbers (items_view (drop l.value-index l.values)) ≡ gathered table_number (items_view l.values)
