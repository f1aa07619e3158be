use Rattle.outcome_items.proofs.Tables.{else_told, keeps}
use Rattle.outcome_items.proofs.laws.tries_again_keep_cookies.Goals as goal

pub returns-clause-kept : goal.returns-clause-kept
returns-clause-kept c = keeps

pub returns-clause-else_told : goal.returns-clause-else_told
returns-clause-else_told c = else_told
