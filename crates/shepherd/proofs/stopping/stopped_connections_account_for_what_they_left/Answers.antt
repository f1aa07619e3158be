use Rattle.shepherd.proofs.Stopped.{given_back, given_up, inside, kept, meanwhile, no_item, opening, refused, spent, still, stops, told, unmade, unsent, unsent_still}
use Rattle.shepherd.proofs.stopping.stopped_connections_account_for_what_they_left.Goals as goal

pub returns-clause-stops : goal.returns-clause-stops
returns-clause-stops g c = λ start history own marks items s h.
    stops g.P.Program.asks start history own marks items s h

pub returns-clause-meanwhile : goal.returns-clause-meanwhile
returns-clause-meanwhile g c = λ start history more own marks items s h.
    meanwhile g.P.Program.asks c.requests_account_for_their_events.ensures.meanwhile start history more own marks items s h

pub returns-clause-still : goal.returns-clause-still
returns-clause-still g c = λ start history own marks items s new same h.
    still g.P.Program.asks start history own marks items s new same h

pub returns-clause-kept : goal.returns-clause-kept
returns-clause-kept g c = λ start history own marks items s new steps h.
    kept g.P.Program.asks start history own marks items s new steps h

pub returns-clause-inside : goal.returns-clause-inside
returns-clause-inside g c = λ start history own marks items s new steps h.
    inside g.P.Program.asks start history own marks items s new steps h

pub returns-clause-opening : goal.returns-clause-opening
returns-clause-opening g c = λ start history own marks items s new steps h.
    opening g.P.Program.asks start history own marks items s new steps h

pub returns-clause-unmade : goal.returns-clause-unmade
returns-clause-unmade g c = λ start history own marks items s new is h.
    unmade g.P.Program.asks start history own marks items s new is h

pub returns-clause-refused : goal.returns-clause-refused
returns-clause-refused g c = λ start history own marks items s new win after steps h.
    refused g.P.Program.asks start history own marks items s new win after steps h

pub returns-clause-given_up : goal.returns-clause-given_up
returns-clause-given_up g c = λ start history own marks items s h.
    given_up g.P.Program.asks start history own marks items s h

pub returns-clause-given_back : goal.returns-clause-given_back
returns-clause-given_back g c = λ start history own marks items s stage win after back h.
    given_back g.P.Program.asks start history own marks items s stage win after back h

pub returns-clause-told : goal.returns-clause-told
returns-clause-told g c = λ start history own marks items s h.
    told g.P.Program.asks c.requests_account_for_their_events.ensures.item c.requests_account_for_their_marks.ensures.item start history own marks items s h

pub returns-clause-spent : goal.returns-clause-spent
returns-clause-spent g c = λ start history own marks items s stage win after back h.
    spent g.P.Program.asks c.requests_account_for_their_events.ensures.item c.requests_account_for_their_marks.ensures.item start history own marks items s stage win after back h

pub returns-clause-no_item : goal.returns-clause-no_item
returns-clause-no_item g c = λ s stage win after back unsent.
    no_item s stage win after back unsent

pub returns-clause-unsent : goal.returns-clause-unsent
returns-clause-unsent g c = λ s new steps. unsent s new steps

pub returns-clause-unsent_still : goal.returns-clause-unsent_still
returns-clause-unsent_still g c = λ s new so before. unsent_still s new so before
