use Rattle.std.proofs.Common.{◌≡◌, Some, None, refl, ap, ◌∙◌}
use Rattle.deployment.specs.Refusals.{deploy_refusal}
use Rattle.auction_rows.specs.Parts.{site_components, site_references, site_tables, site_parts}
use Rattle.auction_rows.proofs.site.site_deployment.Goals as goal

-- the parts of the site are not refused
accepted : deploy_refusal site_parts ≡ None
unfolding deploy_refusal site_components site_references site_tables
accepted = refl

pub unreachable-requires : goal.unreachable-requires
unreachable-requires c =
    let parts = c.in_ok-site_parts.field-0 in
    let is : parts ≡ site_parts = c.in_ok-site_parts.ensures in
    let refused : deploy_refusal parts ≡ Some c.in-Err.field-0 = c.in-Err.ensures.answer in
    let none : deploy_refusal parts ≡ None = ap deploy_refusal is ∙ accepted in
    cc
