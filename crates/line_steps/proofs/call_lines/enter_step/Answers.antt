use Rattle.line_steps.proofs.Entering.{refused_enter}
use Rattle.line_steps.proofs.call_lines.enter_step.Goals as goal

pub returns-clause-answer : goal.returns-clause-answer
returns-clause-answer g c =
    let is = refused_enter (Unit {0}) c.args.container.now.boot c.args.caller c.args.ticket.now c.args.name c.in-Some.c c.in-Err.refusal (cc (c.named.ensures.value, c.as_slice.ensures, c.deployment.ensures, c.in-Some.is)) (cc) c.in-Err.ensures.answer c.in_ok-refusal_text-in-Err.ensures.memory in
    cc (is, c.in-Err.ensures.same, c.in-Err.ensures.refused, c.in_ok-refusal_text-in-Err.ensures.text)
