use Rattle.std.proofs.Common.{◌≡◌, ◌∙◌, ◌+◌, drop, sym, ap, Ok, arith}
use Rattle.toml.proofs.Views.{items_view-drop}
use Rattle.toml.specs.Data.{item}
use Rattle.toml.specs.View.{view, items_view}
use Rattle.descriptor_text.specs.Description.{descriptions_from, description_of}
use Rattle.descriptor_text.proofs.Gathering.{described_after, described_after-item}
use Rattle.descriptor_text.proofs.description.descriptions_of.Goals as goal

-- the value at the place describes the component that was added
pub loop-component-preserved : goal.loop-component-preserved
loop-component-preserved c =
    let values = c.args.values.now in
    let done = c.loop-component.descriptions in
    let place = c.loop-component.component in
    let value = c.index-values-component.result in
    let rest = items_view (drop (place + 1) values) in
    let gives : description_of (view value) ≡ Ok c.in-Ok.description = c.in-Ok.ensures in
    let here : items_view (drop place values) ≡ item (view value) rest = items_view-drop values place value (omega arith) ∙ ap (λ v. item (view v) rest) (sym c.index-values-component.is) in
    rw c.in_ok-push-in-Ok.ensures.ok (sym (described_after-item done place (view value) rest c.in-Ok.description gives) ∙ ap (λ items. described_after done (descriptions_from place items)) (sym here) ∙ c.loop-component.invariant)
