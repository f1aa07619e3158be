use Rattle.std.proofs.Common.{ap, ◌∙◌}
use Rattle.std.proofs.lemmas.List.{drop_all}
use Rattle.auction_site.specs.Planned.{category_link_plan}
use Rattle.auction_actions.proofs.Each.{so_far, so_far_none, each_has_stopped, each_has_gone_on, each_has_ended, rows_left}
use Rattle.auction_actions.proofs.listing.row_links.Goals as goal

pub loop-row-init : goal.loop-row-init
loop-row-init c = ap (λ l. so_far category_link_plan l c.args.rows.now) c.new-links.ensures ∙ so_far_none category_link_plan c.args.rows.now

pub returns-in_err-link : goal.returns-in_err-link
returns-in_err-link c = each_has_stopped category_link_plan c.loop-row.links _ _ c.loop-row.invariant _ _ _ _ (rows_left c.args.rows.now c.loop-row.row-index _ c.loop-row-test.true c.row-item.is) c.from_residual.ensures.1 c.in_err-link.ensures

pub loop-row-preserved : goal.loop-row-preserved
loop-row-preserved c = each_has_gone_on category_link_plan c.loop-row.links _ _ c.loop-row.invariant _ _ _ _ (rows_left c.args.rows.now c.loop-row.row-index _ c.loop-row-test.true c.row-item.is) c.in_ok-link.ensures c.in_ok-push.ensures.ok

pub returns : goal.returns
returns c = each_has_ended category_link_plan c.loop-row.links _ _ c.loop-row.invariant (drop_all c.loop-row.row-index c.args.rows.now c.loop-row-test.false)
