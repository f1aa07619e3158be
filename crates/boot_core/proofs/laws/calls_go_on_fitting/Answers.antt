use Rattle.boot_core.proofs.Fitting.{begins_fitting, fits_entering, fits_leaving, fits_reading, fits_listing, fits_putting, fits_grown}
use Rattle.boot_core.proofs.laws.calls_go_on_fitting.Goals as goal

pub returns-clause-begun : goal.returns-clause-begun
returns-clause-begun c = begins_fitting

pub returns-clause-entered : goal.returns-clause-entered
returns-clause-entered c = fits_entering

pub returns-clause-left : goal.returns-clause-left
returns-clause-left c = fits_leaving

pub returns-clause-read : goal.returns-clause-read
returns-clause-read c = fits_reading

pub returns-clause-listed : goal.returns-clause-listed
returns-clause-listed c = fits_listing

pub returns-clause-kept : goal.returns-clause-kept
returns-clause-kept c = fits_putting

pub returns-clause-meanwhile : goal.returns-clause-meanwhile
returns-clause-meanwhile c = fits_grown
