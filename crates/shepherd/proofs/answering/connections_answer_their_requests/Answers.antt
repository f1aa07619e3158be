use Rattle.shepherd.proofs.Responding.{advance, begins, given_back, given_up, inside, item, meanwhile, opens, out, outside, still, windows}
use Rattle.shepherd.proofs.answering.connections_answer_their_requests.Goals as goal

pub returns-clause-begins : goal.returns-clause-begins
returns-clause-begins g c = λ key history. begins key history

pub returns-clause-meanwhile : goal.returns-clause-meanwhile
returns-clause-meanwhile g c = λ key history more heads written items s h.
    meanwhile c.responses_are_of_their_items.ensures.meanwhile key history more heads written items s h

pub returns-clause-still : goal.returns-clause-still
returns-clause-still g c = λ key history heads written items s new same h. still key history heads written items s new same h

pub returns-clause-outside : goal.returns-clause-outside
returns-clause-outside g c = λ key history heads written items old new link after is steps h.
    outside g.L.Link.makes g.L.Link.tally c.requests_account_for_their_marks.ensures.outside c.responses_are_of_their_items.ensures.outside
    key history heads written items old new link after is steps h

pub returns-clause-windows : goal.returns-clause-windows
returns-clause-windows g c = λ key history heads written items old new win after is steps h.
    windows c.requests_account_for_their_marks.ensures.windows c.responses_are_of_their_items.ensures.windows
    key history heads written items old new win after is steps h

pub returns-clause-inside : goal.returns-clause-inside
returns-clause-inside g c = λ key heads written items old new container after steps grown h.
    inside g.P.Program.asks c.responses_are_of_their_items.ensures.meanwhile c.requests_account_for_their_marks.ensures.inside c.responses_are_of_their_items.ensures.inside
    key heads written items old new container after steps grown h

pub returns-clause-advance : goal.returns-clause-advance
returns-clause-advance g c = λ key history heads written items old new is steps h.
    advance c.requests_account_for_their_marks.ensures.advance c.responses_are_of_their_items.ensures.advance
    key history heads written items old new is steps h

pub returns-clause-open : goal.returns-clause-open
returns-clause-open g c = λ key history heads written items s stage maker worker is does h.
    opens g.M.ProgramMaker.makes c.responses_are_of_their_items.ensures.opens key history heads written items s stage maker worker is does h

pub returns-clause-out : goal.returns-clause-out
returns-clause-out g c = λ key history heads written bytes items s stage is puts h.
    out c.requests_account_for_their_marks.ensures.leave c.responses_are_of_their_items.ensures.leave key history heads written bytes items s stage is puts h

pub returns-clause-item : goal.returns-clause-item
returns-clause-item g c = λ key history heads written items i s stage is takes h. item key history heads written items i s stage is takes h

pub returns-clause-given_up : goal.returns-clause-given_up
returns-clause-given_up g c = λ key history heads written items s h. given_up key history heads written items s h

pub returns-clause-given_back : goal.returns-clause-given_back
returns-clause-given_back g c = λ key history heads written items s stage win after back left has h.
    given_back c.requests_account_for_their_marks.ensures.back c.responses_are_of_their_items.ensures.back
    key history heads written items s stage win after back left has h
