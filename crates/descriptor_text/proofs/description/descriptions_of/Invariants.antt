use Rattle.std.proofs.Common.{◌≡◌, drop}
use Rattle.toml.specs.View.{items_view}
use Rattle.descriptor_text.specs.Description.{descriptions_from, descriptions_of}
use Rattle.descriptor_text.proofs.Gathering.{described_after}
use Rattle.descriptor_text.proofs.description.descriptions_of.Given as goal

abbrev pub invariant-loop-component : goal.invariant-loop-component
invariant-loop-component l =
    described_after l.descriptions (descriptions_from l.component (items_view (drop l.component l.values)))
    ≡ descriptions_of (items_view l.values)
