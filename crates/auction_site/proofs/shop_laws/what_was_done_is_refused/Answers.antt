use Rattle.auction_site.proofs.AfterDone.{feedback_once, other_as_before, sold_is_over, after_close_is_over, no_more_is_low}
use Rattle.auction_site.proofs.shop_laws.what_was_done_is_refused.Goals as goal

pub returns-clause-feedback : goal.returns-clause-feedback
returns-clause-feedback c = feedback_once

pub returns-clause-other : goal.returns-clause-other
returns-clause-other c = other_as_before

pub returns-clause-bought : goal.returns-clause-bought
returns-clause-bought c = sold_is_over

pub returns-clause-closed : goal.returns-clause-closed
returns-clause-closed c = after_close_is_over

pub returns-clause-low : goal.returns-clause-low
returns-clause-low c = no_more_is_low
