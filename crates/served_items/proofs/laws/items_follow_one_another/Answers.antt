use Rattle.served_items.proofs.Following.{follows, keeps}
use Rattle.served_items.proofs.laws.items_follow_one_another.Goals as goal

pub returns-clause-item : goal.returns-clause-item
returns-clause-item g c = λ boot fed heads written items i s stage takes goes stands h.
    follows g.P.Program.accepts g.P.Program.asks c.requests_go_on.ensures.item boot fed heads written items i s stage takes goes stands h

pub returns-clause-keeps : goal.returns-clause-keeps
returns-clause-keeps g c = λ start history own marks fed heads written items i s stage takes accounts stands h.
    keeps g.P.Program.asks c.requests_account_for_their_events.ensures.item start history own marks fed heads written items i s stage takes accounts stands h
