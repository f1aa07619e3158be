use Rattle.drive_engine.proofs.Working.{text_over_no_rows, text_over_none_told}
use Rattle.drive_engine.proofs.laws.workloads_over_no_rows_have_one_summary.Goals as goal

pub returns-clause-given : goal.returns-clause-given
returns-clause-given c = text_over_no_rows

pub returns-clause-told : goal.returns-clause-told
returns-clause-told c = text_over_none_told
