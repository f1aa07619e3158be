use Rattle.std.proofs.Common.{◌≡◌, ◌-◌}
use Rattle.action_plans.specs.Plans.{walk}
use Rattle.auction_site.specs.Numbers.{count_up}
use Rattle.auction_site.specs.Pieces.{asks_each}
use Rattle.auction_site.specs.Planned.{entry_link_plan}
use Rattle.auction_actions.proofs.Each.{so_far}
use Rattle.auction_actions.proofs.browsing.entry_links.Given as goal

abbrev pub invariant-loop-number : goal.invariant-loop-number
invariant-loop-number l =
    walk (so_far (entry_link_plan l.category) l.links (count_up l.number (l.number-end - l.number))) l.reads
    ≡ walk (asks_each (entry_link_plan l.category) (count_up l.first l.count)) l.fn.reads
