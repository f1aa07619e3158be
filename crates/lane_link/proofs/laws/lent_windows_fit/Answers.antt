use Rattle.lane_link.proofs.Beginning.{step_fits, refused_fit, back_fits}
use Rattle.lane_link.proofs.laws.lent_windows_fit.Goals as goal

pub returns-clause-step : goal.returns-clause-step
returns-clause-step c = step_fits

pub returns-clause-refused : goal.returns-clause-refused
returns-clause-refused c = refused_fit

pub returns-clause-back : goal.returns-clause-back
returns-clause-back c = back_fits
