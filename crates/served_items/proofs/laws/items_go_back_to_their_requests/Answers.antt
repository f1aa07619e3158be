use Rattle.served_items.specs.Attributing.{WasTakenIn}
use Rattle.served_items.proofs.Stepping.{advance, back, begins, given_up, inside, item, meanwhile, opens, out, outside, still, windows}
use Rattle.served_items.proofs.laws.items_go_back_to_their_requests.Goals as goal

pub returns-clause-begins : goal.returns-clause-begins
returns-clause-begins g c = λ service start history now.
    begins g.P.Program.asks g.L.Link.makes (g.M.ProgramMaker.makes service.maker) (WasTakenIn g.R.Random.gives g.S.Serials.looks service.key service.home) start history now

pub returns-clause-meanwhile : goal.returns-clause-meanwhile
returns-clause-meanwhile g c = λ service start history more heads drawn earliest latest items later s less h.
    meanwhile g.P.Program.asks g.L.Link.makes (g.M.ProgramMaker.makes service.maker) (WasTakenIn g.R.Random.gives g.S.Serials.looks service.key service.home)
    c.requests_account_for_their_events.ensures.meanwhile c.requests_account_for_their_sessions.ensures.meanwhile
    start history more heads drawn earliest latest items later s less h

pub returns-clause-still : goal.returns-clause-still
returns-clause-still g c = λ service start history heads drawn earliest latest items s new same h.
    still g.P.Program.asks g.L.Link.makes (g.M.ProgramMaker.makes service.maker) (WasTakenIn g.R.Random.gives g.S.Serials.looks service.key service.home)
    start history heads drawn earliest latest items s new same h

pub returns-clause-outside : goal.returns-clause-outside
returns-clause-outside g c = λ service start history heads drawn earliest latest items old new link after is steps h.
    outside g.P.Program.asks g.L.Link.makes (g.M.ProgramMaker.makes service.maker) (WasTakenIn g.R.Random.gives g.S.Serials.looks service.key service.home) g.L.Link.tally
    c.requests_account_for_their_events.ensures.outside c.requests_account_for_their_sessions.ensures.outside
    start history heads drawn earliest latest items old new link after is steps h

pub returns-clause-windows : goal.returns-clause-windows
returns-clause-windows g c = λ service start history heads drawn earliest latest items old new before after some few steps h.
    windows g.P.Program.asks g.L.Link.makes (g.M.ProgramMaker.makes service.maker) (WasTakenIn g.R.Random.gives g.S.Serials.looks service.key service.home)
    c.requests_account_for_their_events.ensures.windows c.requests_account_for_their_sessions.ensures.windows
    start history heads drawn earliest latest items old new before after some few steps h

pub returns-clause-inside : goal.returns-clause-inside
returns-clause-inside g c = λ service heads drawn earliest latest items old new container after steps is grown h.
    inside g.P.Program.asks g.L.Link.makes (g.M.ProgramMaker.makes service.maker) (WasTakenIn g.R.Random.gives g.S.Serials.looks service.key service.home)
    c.requests_account_for_their_events.ensures.meanwhile c.requests_account_for_their_sessions.ensures.meanwhile
    c.requests_account_for_their_events.ensures.inside c.requests_account_for_their_sessions.ensures.inside
    heads drawn earliest latest items old new container after steps is grown h

pub returns-clause-advance : goal.returns-clause-advance
returns-clause-advance g c = λ service start history heads drawn earliest latest items key old new is steps h.
    advance g.P.Program.asks g.L.Link.makes (g.M.ProgramMaker.makes service.maker) (WasTakenIn g.R.Random.gives g.S.Serials.looks service.key service.home)
    c.requests_account_for_their_events.ensures.advance c.requests_account_for_their_sessions.ensures.advance
    start history heads drawn earliest latest items key old new is steps h

pub returns-clause-open : goal.returns-clause-open
returns-clause-open g c = λ service start history heads drawn earliest latest items s stage worker is does h.
    opens g.P.Program.asks g.L.Link.makes g.M.ProgramMaker.makes service.maker (WasTakenIn g.R.Random.gives g.S.Serials.looks service.key service.home)
    c.requests_account_for_their_events.ensures.opens c.requests_account_for_their_sessions.ensures.opens
    start history heads drawn earliest latest items s stage worker is does h

pub returns-clause-out : goal.returns-clause-out
returns-clause-out g c = λ service start history heads drawn earliest latest items bytes s stage is puts h.
    out g.P.Program.asks g.L.Link.makes (g.M.ProgramMaker.makes service.maker) (WasTakenIn g.R.Random.gives g.S.Serials.looks service.key service.home)
    c.requests_account_for_their_events.ensures.leave c.requests_account_for_their_sessions.ensures.leave
    start history heads drawn earliest latest items bytes s stage is puts h

pub returns-clause-item : goal.returns-clause-item
returns-clause-item g c = λ service start history heads drawn earliest latest items i s stage is takes h.
    item g.P.Program.asks g.L.Link.makes (g.M.ProgramMaker.makes service.maker) (WasTakenIn g.R.Random.gives g.S.Serials.looks service.key service.home)
    start history heads drawn earliest latest items i s stage is takes h

pub returns-clause-given_up : goal.returns-clause-given_up
returns-clause-given_up g c = λ service start history heads drawn earliest latest items s h.
    given_up g.P.Program.asks g.L.Link.makes (g.M.ProgramMaker.makes service.maker) (WasTakenIn g.R.Random.gives g.S.Serials.looks service.key service.home)
    c.requests_account_for_their_events.ensures.dropped c.requests_account_for_their_sessions.ensures.dropped
    start history heads drawn earliest latest items s h

pub returns-clause-given_back : goal.returns-clause-given_back
returns-clause-given_back g c = λ service start history heads drawn earliest latest items s stage before after gives answered h.
    back g.P.Program.asks g.L.Link.makes (g.M.ProgramMaker.makes service.maker) (WasTakenIn g.R.Random.gives g.S.Serials.looks service.key service.home)
    c.requests_account_for_their_events.ensures.back c.requests_account_for_their_sessions.ensures.back
    start history heads drawn earliest latest items s stage before after answered gives h
