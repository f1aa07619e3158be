use Rattle.site_programs.proofs.Reaching.{conflict_reached, down_reached, failed_reached, hung_reached, once_bought, raised_reached, revoked_reached}
use Rattle.site_programs.proofs.reach.requests_touch_what_their_actions_reach.Goals as goal

pub returns-clause-sentinel : goal.returns-clause-sentinel
returns-clause-sentinel c = down_reached c.calls_enter_owners.ensures.group

pub returns-clause-hung : goal.returns-clause-hung
returns-clause-hung c = hung_reached c.calls_enter_owners.ensures.component

pub returns-clause-raised : goal.returns-clause-raised
returns-clause-raised c = raised_reached c.calls_enter_owners.ensures.component

pub returns-clause-path : goal.returns-clause-path
returns-clause-path c = failed_reached c.calls_enter_owners.ensures.component

pub returns-clause-revoked : goal.returns-clause-revoked
returns-clause-revoked c = revoked_reached c.calls_enter_owners.ensures.group c.calls_access_reached_tables.ensures.accesses

pub returns-clause-conflict : goal.returns-clause-conflict
returns-clause-conflict c = conflict_reached c.calls_enter_owners.ensures.group c.calls_access_reached_tables.ensures.accesses

pub returns-clause-early : goal.returns-clause-early
returns-clause-early c = λ start events errand call e tries asks stands is few.
    once_bought c.purchases_enter_once.ensures start errand call asks
    (c.single_calls_alone_end_early.ensures.ended start events errand e tries stands is few)
