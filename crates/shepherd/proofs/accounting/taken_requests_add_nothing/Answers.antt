use Rattle.shepherd.proofs.Beginning.{taken}
use Rattle.shepherd.proofs.accounting.taken_requests_add_nothing.Goals as goal

pub returns : goal.returns
returns g c = λ key home counts start history own marks items s new clock clock_after random random_after serials serials_after is takes h.
    taken g.P.Program.asks c.requests_account_for_their_events.ensures.begins g.C.Clock.told g.R.Random.gives g.S.Serials.looks key home counts
    start history own marks items s new clock clock_after random random_after serials serials_after is takes h
