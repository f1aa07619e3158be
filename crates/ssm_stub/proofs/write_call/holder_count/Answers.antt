use Rattle.std.proofs.Common.{arith, ap, sym, ◌∙◌, ◌+◌}
use Rattle.ssm_stub.specs.Writes.{holder_of}
use Rattle.ssm_stub.proofs.Lists.{filter_map_counts, filter_map_passes}
use Rattle.ssm_stub.proofs.write_call.holder_count.Goals as goal
use Rattle.ssm_stub.proofs.write_call.holder_count.Goals.{in-Some, in_default}

pub loop-ask-preserved : goal.loop-ask-preserved
loop-ask-preserved c =
    let few = c.loop-ask.invariant.few in
    elim c.match-holder_of.branch [
      | in-Some w ↦
          let more = filter_map_counts holder_of c.args.asks.now c.loop-ask.ask-index _ _ c.loop-ask-test.true (sym c.holder_of.ensures ∙ w.in-Some.is) in
          let one = w.count-is in
          record { so_far = one ∙ (ap (λ n. n + 1) c.loop-ask.invariant.so_far ∙ sym more); few = omega arith }
      | in_default w ↦
          let same = filter_map_passes holder_of c.args.asks.now c.loop-ask.ask-index _ c.loop-ask-test.true (sym c.holder_of.ensures ∙ w.in_default.is) in
          let one = w.count-is in
          record { so_far = cc; few = omega arith }
    ]
