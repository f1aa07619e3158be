use Rattle.std.proofs.Common.{◌≡◌, drop}
use Rattle.toml.specs.View.{items_view}
use Rattle.toml.specs.Data.{as_str}
use Rattle.descriptor_text.specs.Keys.{gathered}
use Rattle.descriptor_text.proofs.Gathering.{gathered_after}
use Rattle.descriptor_text.proofs.keys.texts.Given as goal

abbrev pub invariant-loop-value : goal.invariant-loop-value
invariant-loop-value l = gathered_after as_str l.names (items_view (drop l.value-index l.values)) ≡ gathered as_str (items_view l.values)
