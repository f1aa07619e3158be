use Rattle.std.proofs.Common.{refl}
use Rattle.auction_rows.specs.Parts.{site_references}
use Rattle.auction_rows.proofs.laws.site_groups.Goals as goal

pub returns : goal.returns
unfolding site_references
returns c = refl
