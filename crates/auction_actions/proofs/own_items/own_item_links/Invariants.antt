use Rattle.std.proofs.Common.{◌≡◌, ◌-◌}
use Rattle.action_plans.specs.Plans.{walk}
use Rattle.auction_site.specs.Numbers.{count_down}
use Rattle.auction_site.specs.Pieces.{asks_each}
use Rattle.auction_site.specs.Planned.{own_item_link_plan}
use Rattle.auction_actions.proofs.Each.{so_far}
use Rattle.auction_actions.proofs.own_items.own_item_links.Given as goal

abbrev pub invariant-loop-before : goal.invariant-loop-before
invariant-loop-before l =
    walk (so_far (own_item_link_plan l.user) l.links (count_down (l.last - l.before) (l.count - l.before))) l.reads
    ≡ walk (asks_each (own_item_link_plan l.user) (count_down l.last l.count)) l.fn.reads
