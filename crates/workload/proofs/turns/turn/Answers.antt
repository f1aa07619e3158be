use Rattle.workload.specs.Turns.{Work, work_at}
use Rattle.workload.specs.Working.{left_at}
use Rattle.workload.proofs.Turning.{going_on, turned}
use Rattle.workload.proofs.turns.turn.Goals as goal

pub returns-clause-turned : goal.returns-clause-turned
returns-clause-turned g c =
    let w : Work = work_at c.args.number c.args.k c.args.container.now.boot c.args.callers.now c.args.tally.now in
    turned w c.next_number-drawn.result c.chosen-choice.result c.take_call-call.result (left_at c.caller_step.new.container.boot c.in_ok-left.left.ticket c.in_ok-left.left.outcome) c.take_call-call.new.callers c.put_back.new.callers c.count_if.new.self c.args.container.now.faults c.caller_step.new.container.faults c.next_number-drawn.ensures c.chosen-choice.ensures.value c.take_call-call.ensures.call c.take_call-call.ensures.taken c.put_back.ensures c.count_if.ensures c.in_ok-left.ensures.left

pub returns-clause-going : goal.returns-clause-going
returns-clause-going g c =
    going_on c.args.container.now.boot c.caller_step.new.container.boot c.args.callers.now c.take_call-call.new.callers c.put_back.new.callers c.chosen-choice.result.caller c.in_ok-left.left.ticket c.requires.going c.caller_step.ensures.grown c.take_call-call.ensures.taken c.put_back.ensures c.in_ok-left.ensures.goes
