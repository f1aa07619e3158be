use Rattle.std.proofs.lemmas.Result.{IfErr-weaker, on_ok_weaker}
use Rattle.session_way.proofs.Marked.{refused_marks, step_marks}
use Rattle.session_way.proofs.way.SessionWay.step_windows.Goals as goal

pub returns-clause-marks : goal.returns-clause-marks
returns-clause-marks c =
    on_ok_weaker c.call_windows.result
    (λ h. step_marks c.args.windows.now c.call_windows.new.windows c.args.self.now c.call_windows.new.self h)
    c.call_windows.ensures.step

pub returns-clause-refusal : goal.returns-clause-refusal
returns-clause-refusal c =
    IfErr-weaker c.call_windows.result _ _
    (λ refusal h. refused_marks c.args.windows.now c.call_windows.new.windows c.args.self.now c.call_windows.new.self refusal h)
    c.call_windows.ensures.refused
