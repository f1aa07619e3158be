use Rattle.std.proofs.Common.{arith}
use Rattle.std.proofs.lemmas.List.Elements.{All-nil}
use Rattle.session_steps.specs.Kept.{HasHolders}
use Rattle.session_steps.proofs.LineKeeps.{answer_keeps}
use Rattle.session_steps.proofs.sessions.Sessions.step.Goals as goal

pub invariant_of-self : goal.invariant_of-self
invariant_of-self c = answer_keeps c.self.inside.parts c.line.new.self c.args.line c.in-Ok.answer c.self.invariant c.in-Ok.ensures.answer c.in-Ok.ensures.refused

pub invariant_of-self-in-Err : goal.invariant_of-self-in-Err
invariant_of-self-in-Err c = rw c.forget.ensures (record { in_time = omega arith; cookies = All-nil HasHolders; store = tt })
