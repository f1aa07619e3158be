use Rattle.std.proofs.Common.{Some, ap, sym, ◌∙◌}
use Rattle.boot_core.proofs.Turning.{stale_here, stale_past, stale_none_left}
use Rattle.boot_core.proofs.staleness.stale_in.Goals as goal

pub is_stale-requires : goal.is_stale-requires
is_stale-requires c = c.requires c.loop-touch.touch-index _ c.loop-touch-test.true

pub stale_by-requires : goal.stale_by-requires
stale_by-requires c = c.requires c.loop-touch.touch-index _ c.loop-touch-test.true

pub loop-touch-preserved : goal.loop-touch-preserved
loop-touch-preserved c =
    sym (stale_past c.args.journal.now.entries c.args.touched.now c.loop-touch.touch-index _ c.loop-touch-test.true (sym c.is_stale.ensures ∙ c.if-is_stale.false)) ∙ c.loop-touch.invariant

pub returns-then-is_stale : goal.returns-then-is_stale
returns-then-is_stale c =
    ap (λ s. Some s) c.stale_by.ensures ∙ sym (stale_here c.args.journal.now.entries c.args.touched.now c.loop-touch.touch-index _ c.loop-touch-test.true (sym c.is_stale.ensures ∙ c.if-is_stale.true)) ∙ c.loop-touch.invariant

pub returns : goal.returns
returns c = sym (stale_none_left c.args.journal.now.entries c.args.touched.now c.loop-touch.touch-index c.loop-touch-test.false) ∙ c.loop-touch.invariant
