use Rattle.shepherd_steps.proofs.WorldSteps.{event-fixed}
use Rattle.shepherd_steps.proofs.events.events_are_fixed.Goals as goal

pub returns : goal.returns
returns g c = λ given maker words serials drawn old mid bytes functions at_random at_serials calls.
    event-fixed g.L.Link.makes g.M.ProgramMaker.makes g.C.Clock.told g.R.Random.gives g.S.Serials.looks given maker words serials functions
    (λ head decision is. c.decisions_are_one.ensures given.service.key given.service.home.boot head decision (given.service.decides head) is (functions.decides head))
    old drawn at_random at_serials mid bytes calls
