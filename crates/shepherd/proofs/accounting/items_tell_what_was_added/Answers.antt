use Rattle.shepherd.proofs.Counting.{accounted}
use Rattle.shepherd.proofs.accounting.items_tell_what_was_added.Goals as goal

pub returns : goal.returns
returns g c = λ start history own marks items s h.
    accounted g.P.Program.asks c.requests_account_for_their_events.ensures.item c.requests_account_for_their_marks.ensures.item start history own marks items s h
