use Rattle.std.proofs.Common.{◌+◌}
use Rattle.auction_site.specs.Planned.{entry_link_plan}
use Rattle.auction_actions.proofs.Each.{each_begins, each_stops, each_goes_on, each_ends, up_all, up_left, up_done}
use Rattle.auction_actions.proofs.browsing.entry_links.Goals as goal

pub loop-number-init : goal.loop-number-init
loop-number-init c = each_begins (entry_link_plan c.args.category) _ _ _ c.args.reads.now c.new-links.ensures (up_all c.args.first c.args.count)

pub returns-in_err-link : goal.returns-in_err-link
returns-in_err-link c = each_stops (entry_link_plan c.args.category) c.loop-number.links _ c.loop-number.reads _ c.loop-number.invariant _ _ _ _ _ _ (up_left c.loop-number.number (c.args.first + c.args.count) c.loop-number-test.true) c.from_residual.ensures.1 c.in_err-link.ensures

pub loop-number-preserved : goal.loop-number-preserved
loop-number-preserved c = each_goes_on (entry_link_plan c.args.category) c.loop-number.links _ c.loop-number.reads _ c.loop-number.invariant _ _ _ _ _ (up_left c.loop-number.number (c.args.first + c.args.count) c.loop-number-test.true) c.in_ok-link.ensures c.in_ok-push.ensures.ok

pub returns : goal.returns
returns c = each_ends (entry_link_plan c.args.category) c.loop-number.links _ c.loop-number.reads _ c.loop-number.invariant (up_done c.loop-number.number (c.args.first + c.args.count) c.loop-number-test.false)
