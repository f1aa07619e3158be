use Rattle.shepherd.proofs.Counting.{advance, begins, given_back, given_up, inside, item, meanwhile, opens, out, outside, over_behind, still, windows}
use Rattle.shepherd.proofs.accounting.connections_account_for_what_they_add.Goals as goal

pub returns-clause-begins : goal.returns-clause-begins
returns-clause-begins g c = λ start history. begins g.P.Program.asks start history

pub returns-clause-meanwhile : goal.returns-clause-meanwhile
returns-clause-meanwhile g c = λ start history more own marks items s h.
    meanwhile g.P.Program.asks c.requests_account_for_their_events.ensures.meanwhile start history more own marks items s h

pub returns-clause-still : goal.returns-clause-still
returns-clause-still g c = λ start history own marks items s new same h. still g.P.Program.asks start history own marks items s new same h

pub returns-clause-outside : goal.returns-clause-outside
returns-clause-outside g c = λ start history own marks items old new link after steps h.
    outside g.P.Program.asks g.L.Link.makes g.L.Link.tally c.requests_account_for_their_events.ensures.outside c.requests_account_for_their_marks.ensures.outside
    start history own marks items old new link after steps h

pub returns-clause-windows : goal.returns-clause-windows
returns-clause-windows g c = λ start history own marks items old new windows-before after is steps h.
    windows g.P.Program.asks c.requests_account_for_their_events.ensures.windows c.requests_account_for_their_marks.ensures.windows
    start history own marks items old new windows-before after is steps h

pub returns-clause-inside : goal.returns-clause-inside
returns-clause-inside g c = λ own marks items old new container after steps is grown h.
    inside g.P.Program.asks c.requests_account_for_their_events.ensures.meanwhile c.requests_account_for_their_events.ensures.inside c.requests_account_for_their_marks.ensures.inside
    own marks items old new container after steps is grown h

pub returns-clause-advance : goal.returns-clause-advance
returns-clause-advance g c = λ start history own marks key items old new is steps h.
    advance g.P.Program.asks c.requests_account_for_their_events.ensures.advance c.requests_account_for_their_marks.ensures.advance
    start history own marks key items old new is steps h

pub returns-clause-open : goal.returns-clause-open
returns-clause-open g c = λ start history own marks items s stage maker worker is does h.
    opens g.P.Program.asks g.M.ProgramMaker.makes c.requests_account_for_their_events.ensures.opens start history own marks items s stage maker worker is does h

pub returns-clause-out : goal.returns-clause-out
returns-clause-out g c = λ start history own marks bytes items s stage is puts h.
    out g.P.Program.asks c.requests_account_for_their_events.ensures.leave c.requests_account_for_their_marks.ensures.leave
    start history own marks bytes items s stage is puts h

pub returns-clause-item : goal.returns-clause-item
returns-clause-item g c = λ start history own marks items i s stage is takes h.
    item g.P.Program.asks start history own marks items i s stage is takes h

pub returns-clause-given_up : goal.returns-clause-given_up
returns-clause-given_up g c = λ start history own marks items s h.
    given_up g.P.Program.asks c.requests_account_for_their_events.ensures.dropped start history own marks items s h

pub returns-clause-given_back : goal.returns-clause-given_back
returns-clause-given_back g c = λ start history own marks items s stage win after back left has h.
    given_back g.P.Program.asks c.requests_account_for_their_events.ensures.back c.requests_account_for_their_marks.ensures.back
    start history own marks items s stage win after back left has h

pub returns-clause-item_next : goal.returns-clause-item_next
returns-clause-item_next g c = λ s stage win after back left. over_behind c.requests_account_for_their_events.ensures.over s stage win after back left
