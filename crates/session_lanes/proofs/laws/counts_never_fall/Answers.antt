use Rattle.session_lanes.proofs.Counting.{new_fit, step_fits, step_grows, unsent_rose, unheard_rose, empty_rose, got_rose}
use Rattle.session_lanes.proofs.laws.counts_never_fall.Goals as goal

pub returns-clause-new : goal.returns-clause-new
returns-clause-new c = λ bricks most least. new_fit bricks

pub returns-clause-fit : goal.returns-clause-fit
returns-clause-fit c = step_fits

pub returns-clause-grow : goal.returns-clause-grow
returns-clause-grow c = step_grows

pub returns-clause-unsent : goal.returns-clause-unsent
returns-clause-unsent c = unsent_rose

pub returns-clause-unheard : goal.returns-clause-unheard
returns-clause-unheard c = unheard_rose

pub returns-clause-empty : goal.returns-clause-empty
returns-clause-empty c = empty_rose

pub returns-clause-got : goal.returns-clause-got
returns-clause-got c = got_rose
