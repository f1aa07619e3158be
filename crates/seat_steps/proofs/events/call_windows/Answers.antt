use Rattle.seat_steps.proofs.Windows.{windows-fit}
use Rattle.seat_steps.proofs.events.call_windows.Goals as goal

pub with_windows-lanes-requires : goal.with_windows-lanes-requires
with_windows-lanes-requires c =
    windows-fit c.lent_windows_fit.ensures.step c.lent_windows_fit.ensures.refused c.args.lanes c.lend_windows-lent.result.0 c.lend_windows-lent.result.1 c.step_windows-answer.new.windows
    c.args.connection.now c.step_windows-answer.new.self c.step_windows-answer.result c.lend_windows-lent.ensures.lanes c.lend_windows-lent.ensures.windows c.lend_windows-lent.ensures.fit
    c.step_windows-answer.ensures.step c.step_windows-answer.ensures.holds
