use Rattle.recovery_manager.proofs.Hearing.{decided_heard, stands_heard, events_more, stands_more}
use Rattle.recovery_manager.proofs.laws.managers_decide_by_all_reports.Goals as goal

pub returns-clause-decision : goal.returns-clause-decision
returns-clause-decision c = decided_heard

pub returns-clause-after : goal.returns-clause-after
returns-clause-after c = stands_heard

pub returns-clause-more : goal.returns-clause-more
returns-clause-more c = events_more

pub returns-clause-reports : goal.returns-clause-reports
returns-clause-reports c = stands_more
