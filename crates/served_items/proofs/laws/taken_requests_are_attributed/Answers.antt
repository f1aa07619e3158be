use Rattle.served_items.proofs.Taking.{taken}
use Rattle.served_items.proofs.laws.taken_requests_are_attributed.Goals as goal

pub returns : goal.returns
returns g c = λ service counts start history heads drawn earliest latest items s new clock clock_after random random_after serials serials_after is late takes h.
    taken g.P.Program.asks g.L.Link.makes g.M.ProgramMaker.makes g.C.Clock.told g.R.Random.gives g.S.Serials.looks
    c.requests_account_for_their_events.ensures.begins
    (record {
      read = c.requests_account_for_their_sessions.ensures.begins;
      unread = c.requests_account_for_their_sessions.ensures.unread;
      refused = c.requests_account_for_their_sessions.ensures.refused;
      spent = c.requests_account_for_their_sessions.ensures.spent;
    })
    service counts start history heads drawn earliest latest items s new clock clock_after random random_after serials serials_after is late takes h
