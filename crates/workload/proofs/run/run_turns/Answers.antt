use Rattle.std.proofs.Common.{ap, ◌∙◌}
use Rattle.line_steps.specs.Callers.{padded}
use Rattle.workload.specs.declared.choices.TheConstants.{LAST_CALLER}
use Rattle.workload.proofs.Running.{has_begun}
use Rattle.workload.proofs.Turning.{one_turn_more}
use Rattle.workload.proofs.run.run_turns.Goals as goal

pub loop-k-init : goal.loop-k-init
loop-k-init g c =
    has_begun c.args.number c.args.container.now.boot c.pad.new.self c.new-tally.result c.args.container.now.faults c.requires.parts (c.in_ok-pad.ensures.padded ∙ ap (λ cs. padded cs LAST_CALLER) c.new-callers.ensures) c.new-tally.ensures

pub loop-k-preserved : goal.loop-k-preserved
loop-k-preserved g c =
    one_turn_more c.args.number c.loop-k.k c.args.container.now.boot c.loop-k.drawn c.in_ok-drawn.drawn c.loop-k.container.boot c.turn.new.container.boot c.loop-k.callers c.turn.new.callers c.loop-k.tally c.turn.new.tally c.args.container.now.faults c.loop-k.container.faults c.turn.new.container.faults c.loop-k.invariant c.in_ok-drawn.ensures.turned c.turn.ensures.count c.in_ok-drawn.ensures.going c.in_ok-drawn.ensures.places c.in_ok-drawn.ensures.tallied
