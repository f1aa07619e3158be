use Rattle.shepherd.proofs.Growing.{given_back, given_up, opens, stepped}
use Rattle.shepherd.proofs.Keeping.{advance_keeps, inside_keeps, outside_keeps, windows_keep}
use Rattle.request_visit.specs.Advancing.{Advances}
use Rattle.request_visit.specs.Stepping.{VisitsInside, VisitsWindows}
use Rattle.shepherd.specs.Steps.{VisitsOutside}
use Rattle.shepherd.proofs.laws.connections_stand_with_their_requests.Goals as goal

pub returns-clause-outside : goal.returns-clause-outside
returns-clause-outside g c = λ bytes heads written items old new link after steps h.
    stepped (λ v w. VisitsOutside g.L.Link.makes g.L.Link.tally v link w after) (λ v w so. outside_keeps g.L.Link.makes g.L.Link.tally v link w after so) bytes heads written items old new steps h

pub returns-clause-windows : goal.returns-clause-windows
returns-clause-windows g c = λ bytes heads written items old new windows after steps h.
    stepped (λ v w. VisitsWindows v windows w after) (λ v w so. windows_keep v windows w after so) bytes heads written items old new steps h

pub returns-clause-inside : goal.returns-clause-inside
returns-clause-inside g c = λ bytes heads written items old new container after steps h.
    stepped (λ v w. VisitsInside g.P.Program.asks v container w after) (λ v w so. inside_keeps g.P.Program.asks v container w after so) bytes heads written items old new steps h

pub returns-clause-advance : goal.returns-clause-advance
returns-clause-advance g c = λ bytes heads written key items old new steps h.
    stepped (λ v w. Advances key v v.work w) (λ v w so. advance_keeps key v w so) bytes heads written items old new steps h

pub returns-clause-open : goal.returns-clause-open
returns-clause-open g c = λ bytes heads written items s stage maker worker turned opened h.
    opens g.M.ProgramMaker.makes maker worker bytes heads written items s stage turned opened h

pub returns-clause-given_up : goal.returns-clause-given_up
returns-clause-given_up g c = λ bytes heads written items s h. given_up bytes heads written items s h

pub returns-clause-given_back : goal.returns-clause-given_back
returns-clause-given_back g c = λ bytes heads written items s stage windows after back h. given_back bytes heads written items s stage windows after back h
