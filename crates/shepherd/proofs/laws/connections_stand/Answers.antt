use Rattle.shepherd.proofs.Growing.{begins, fed, no_more, still}
use Rattle.shepherd.proofs.Requests.{composes, puts_out, takes, takes_item}
use Rattle.shepherd.proofs.laws.connections_stand.Goals as goal

pub returns-clause-begins : goal.returns-clause-begins
returns-clause-begins g c = begins g.row.P.Denot

pub returns-clause-still : goal.returns-clause-still
returns-clause-still g c = λ bytes heads written items s new stage front received h.
    still bytes heads written items s new stage front received h

pub returns-clause-fed : goal.returns-clause-fed
returns-clause-fed g c = λ bytes more heads written items s h. fed bytes more heads written items s h

pub returns-clause-ended : goal.returns-clause-ended
returns-clause-ended g c = λ bytes heads written items s h. no_more bytes heads written items s h

pub returns-clause-taken : goal.returns-clause-taken
returns-clause-taken g c = λ key home counts bytes heads written items s new clock clock_after random random_after serials serials_after turned t h.
    takes g.C.Clock.told g.R.Random.gives g.S.Serials.looks key home counts bytes heads written items s new clock clock_after random random_after serials serials_after
    (composes c.requests_compose.ensures.next c.requests_compose.ensures.last)
    c.requests_compose.ensures.refused c.requests_compose.ensures.long c.requests_compose.ensures.coded c.requests_compose.ensures.long_body turned t h

pub returns-clause-out : goal.returns-clause-out
returns-clause-out g c = λ bytes heads written out items s stage turned puts h. puts_out bytes heads written out items s stage turned puts h

pub returns-clause-item : goal.returns-clause-item
returns-clause-item g c = λ bytes heads written items i s stage takes h. takes_item bytes heads written items i s stage takes h
