use Rattle.std.proofs.Common.{◌≡◌, drop}
use Rattle.auction_site.specs.Pieces.{asks_each}
use Rattle.auction_site.specs.Planned.{category_link_plan}
use Rattle.auction_actions.proofs.Each.{so_far}
use Rattle.auction_actions.proofs.listing.row_links.Given as goal

abbrev pub invariant-loop-row : goal.invariant-loop-row
invariant-loop-row l = so_far category_link_plan l.links (drop l.row-index l.rows) ≡ asks_each category_link_plan l.rows
