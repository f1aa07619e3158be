use Rattle.std.proofs.Common.{ap, sym, ◌∙◌}
use Rattle.ssm_stub.specs.Reads.{loss_of}
use Rattle.ssm_stub.proofs.Lists.{filter_map_adds, filter_map_passes}
use Rattle.ssm_stub.proofs.read_call.losses_of.Goals as goal
use Rattle.ssm_stub.proofs.read_call.losses_of.Goals.{in-Some+in_ok-push, in_default}

pub loop-ask-preserved : goal.loop-ask-preserved
loop-ask-preserved c =
    elim c.match-loss_of.branch [
      | in-Some+in_ok-push w ↦
          let more = filter_map_adds loss_of c.args.asks.now c.loop-ask.ask-index _ w.in-Some.cause c.loop-ask-test.true (ap loss_of (sym c.ask-item.is) ∙ (sym c.loss_of.ensures ∙ w.in-Some.is)) in
          cc (w.in_ok-push.ensures.items)
      | in_default w ↦
          let same = filter_map_passes loss_of c.args.asks.now c.loop-ask.ask-index _ c.loop-ask-test.true (ap loss_of (sym c.ask-item.is) ∙ (sym c.loss_of.ensures ∙ w.in_default.is)) in
          cc
    ]
