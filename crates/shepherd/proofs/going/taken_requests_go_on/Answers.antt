use Rattle.shepherd.proofs.Driving.{taken}
use Rattle.shepherd.proofs.going.taken_requests_go_on.Goals as goal

pub returns : goal.returns
returns g c = λ container key home counts s new clock clock_after random random_after serials serials_after takes goes.
    taken g.P.Program.accepts g.P.Program.asks g.L.Link.makes c.requests_go_on.ensures.begins c.requests_account_for_their_sessions.ensures.begins c.requests_account_for_their_sessions.ensures.unread c.requests_account_for_their_sessions.ensures.refused c.requests_account_for_their_sessions.ensures.spent
    g.C.Clock.told g.R.Random.gives g.S.Serials.looks container key home counts s new clock clock_after random random_after serials serials_after takes goes
