use Rattle.std.proofs.Common.{inr, refl}
use Rattle.service_log.proofs.ending.report_bad_row.Goals as goal

pub returns-in-Err-clause-end : goal.returns-in-Err-clause-end
returns-in-Err-clause-end g c = inr (c.args.id, refl, refl)
