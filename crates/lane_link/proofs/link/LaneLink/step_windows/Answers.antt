use Rattle.lane_link.proofs.Beginning.{fit_again}
use Rattle.lane_link.proofs.link.LaneLink.step_windows.Goals as goal

pub with_windows-lanes-requires : goal.with_windows-lanes-requires
with_windows-lanes-requires c = fit_again c.lend_windows-lent.result.0 c.args.self.lanes c.lend_windows-lent.result.1 c.step_windows-answer.new.windows c.args.way.now c.step_windows-answer.new.self c.step_windows-answer.result c.lend_windows-lent.ensures.lanes c.lend_windows-lent.ensures.windows c.lend_windows-lent.ensures.fit c.step_windows-answer.ensures.step c.step_windows-answer.ensures.refused
