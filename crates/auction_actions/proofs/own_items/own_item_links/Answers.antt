use Rattle.auction_site.specs.Planned.{own_item_link_plan}
use Rattle.auction_actions.proofs.Each.{each_begins, each_stops, each_goes_on, each_ends, down_all, down_left, down_done}
use Rattle.auction_actions.proofs.own_items.own_item_links.Goals as goal

pub loop-before-init : goal.loop-before-init
loop-before-init c = each_begins (own_item_link_plan c.args.user) _ _ _ c.args.reads.now c.new-links.ensures (down_all c.args.last c.args.count)

pub returns-in_err-link : goal.returns-in_err-link
returns-in_err-link c = each_stops (own_item_link_plan c.args.user) c.loop-before.links _ c.loop-before.reads _ c.loop-before.invariant _ _ _ _ _ _ (down_left c.args.last c.loop-before.before c.args.count c.loop-before-test.true) c.from_residual.ensures.1 c.in_err-link.ensures

pub loop-before-preserved : goal.loop-before-preserved
loop-before-preserved c = each_goes_on (own_item_link_plan c.args.user) c.loop-before.links _ c.loop-before.reads _ c.loop-before.invariant _ _ _ _ _ (down_left c.args.last c.loop-before.before c.args.count c.loop-before-test.true) c.in_ok-link.ensures c.in_ok-push.ensures.ok

pub returns : goal.returns
returns c = each_ends (own_item_link_plan c.args.user) c.loop-before.links _ c.loop-before.reads _ c.loop-before.invariant (down_done c.args.last c.loop-before.before c.args.count c.loop-before-test.false)
