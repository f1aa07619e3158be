use Rattle.shepherd.proofs.Replying.{taken}
use Rattle.shepherd.proofs.answering.taken_requests_are_answered.Goals as goal

pub returns : goal.returns
returns g c = λ key home counts history heads written items s new clock clock_after random random_after serials serials_after is takes h.
    taken c.responses_are_of_their_items.ensures.begins c.responses_are_of_their_items.ensures.refused c.responses_are_of_their_items.ensures.spent
    g.C.Clock.told g.R.Random.gives g.S.Serials.looks key home counts history heads written items s new clock clock_after random random_after serials serials_after is takes h
